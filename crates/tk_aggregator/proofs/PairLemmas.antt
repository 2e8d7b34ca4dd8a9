-- Items that go with their handles, in order: where some leave, where one goes last, and where each handle reads.
use Rattle.std.proofs.Common.{◌≡◌, ℕ, List, [], ◌∷◌, ◌++◌, Bool, true, false, cond, ap}
use Rattle.std.specs.Prelude.{not}
use Rattle.tk_stream.specs.Fronts.{with_rows}
use Rattle.tk_stream.specs.Tables.{is_among, staying}
use Rattle.tk_aggregator.specs.Aggregates.{Pairs}
use Rattle.tk_aggregator.specs.Readings.{EachReads}

module _ {Item Handle : Type 0} (P : Item → Handle → Type 0) where
  -- one more
  pub pair_more : (xs : List Item) (ss : List Handle) (x : Item) (s : Handle) → Pairs P xs ss → P x s → Pairs P (xs ++ x ∷ []) (ss ++ s ∷ [])
  pair_more [] [] x s all p = (p, tt)
  pair_more [] (t ∷ ss) x s all p = absurd all
  pair_more (y ∷ xs) [] x s all p = absurd all
  pair_more (y ∷ xs) (t ∷ ss) x s all p = (all.0, pair_more xs ss x s all.1 p)

  -- items that stay go with the handles that stay
  module _ (item_id : Item → ℕ) (handle_id : Handle → ℕ) (same : (x : Item) (s : Handle) → P x s → handle_id s ≡ item_id x) (gone : List ℕ) where
    pub pairs_stay : (xs : List Item) (ss : List Handle) → Pairs P xs ss → Pairs P (staying item_id gone xs) (staying handle_id gone ss)
    pairs_stay [] [] all = tt
    pairs_stay [] (s ∷ ss) all = absurd all
    pairs_stay (x ∷ xs) [] all = absurd all
    pairs_stay (x ∷ xs) (s ∷ ss) all = by (is_among gone (item_id x)) (is_among gone (handle_id s)) (ap (is_among gone) (same x s all.0)) (pairs_stay xs ss all.1)
      where
        by : (b c : Bool) → c ≡ b → Pairs P (staying item_id gone xs) (staying handle_id gone ss)
            → Pairs P (cond (not b) (x ∷ staying item_id gone xs) (staying item_id gone xs)) (cond (not c) (s ∷ staying handle_id gone ss) (staying handle_id gone ss))
        by true true e rest = rest
        by true false e rest = absurd cc
        by false true e rest = absurd cc
        by false false e rest = (all.0, rest)

  -- each handle reads, and its item has what it read
  module _ {Row : Type 0} (with_row : Item → Row → Item) (reads : Handle → Row → Handle → Type 0) (step : (x : Item) (s : Handle) (r : Row) (t : Handle) → P x s → reads s r t → P (with_row x r) t) where
    pub pairs_read : (xs : List Item) (ss : List Handle) (rs : List Row) (ts : List Handle) → Pairs P xs ss → EachReads reads ss rs ts → Pairs P (with_rows with_row xs rs) ts
    pairs_read [] [] [] [] all each = tt
    pairs_read [] [] [] (t ∷ ts) all each = absurd each
    pairs_read [] [] (r ∷ rs) ts all each = absurd each
    pairs_read [] (s ∷ ss) rs ts all each = absurd all
    pairs_read (x ∷ xs) [] rs ts all each = absurd all
    pairs_read (x ∷ xs) (s ∷ ss) [] ts all each = absurd each
    pairs_read (x ∷ xs) (s ∷ ss) (r ∷ rs) [] all each = absurd each
    pairs_read (x ∷ xs) (s ∷ ss) (r ∷ rs) (t ∷ ts) all each = (step x s r t all.0 each.0, pairs_read xs ss rs ts all.1 each.1)
