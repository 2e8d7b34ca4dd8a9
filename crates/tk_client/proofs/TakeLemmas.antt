-- What new items make of the items of one kind, one after the other, and a line without a fault.
use Rattle.std.proofs.Common.{◌≡◌, ℕ, List, [], ◌∷◌, ◌++◌, Bool, true, false, cond, nat_eq, Option, Some, None, Ok, Err, refl, ap, ap₂, sym, ◌∙◌, append_assoc, arith}
use Rattle.std.specs.Prelude.{map, option_map, option_and_then, is_some, ◌||◌}
use Rattle.std.specs.List.{list_any}
use Rattle.std.proofs.lemmas.Bool.{or_parts}
use Rattle.std.proofs.lemmas.Bool.Decides.{nat_tests}
use Rattle.tk_stream.specs.Tables.{TablesView, item_with}
use Rattle.tk_stream.specs.Lines.{LineView}
use Rattle.tk_stream.specs.Applied.{Kind, new_items, tables_after}
use Rattle.tk_client.specs.declared.fault.Fault.TheVariants.{Misfit}
use Rattle.tk_client.specs.Taking.{has_twice, has_id, are_fitting, fitting, repeats_id, has_strange_id, line_applied}
use Rattle.tk_client.specs.Applying.{id_by, info_id_by, made, told_of, has_info, with_new, or_misfit}

module _ {Item Info Stats : Type 0} (k : Kind Item Info Stats) where
  -- ---- ids

  has_id-push : (id : ℕ) (xs : List Item) (y : Item) → has_id k.id_of id (xs ++ y ∷ []) ≡ (has_id k.id_of id xs || nat_eq id (k.id_of y))
  has_id-push id [] y = by (nat_eq id (k.id_of y))
    where
      by : (b : Bool) → is_some (cond b (Some y) None) ≡ b
      by true = refl
      by false = refl
  has_id-push id (x ∷ xs) y = by (nat_eq id (k.id_of x)) (has_id-push id xs y)
    where
      by : (b : Bool) → has_id k.id_of id (xs ++ y ∷ []) ≡ (has_id k.id_of id xs || nat_eq id (k.id_of y))
          → is_some (cond b (Some x) (item_with k.id_of id (xs ++ y ∷ []))) ≡ (is_some (cond b (Some x) (item_with k.id_of id xs)) || nat_eq id (k.id_of y))
      by true e = refl
      by false e = e

  -- ---- new items

  differs : (a b : ℕ) → nat_eq a b ≡ false → nat_eq b a ≡ false
  differs a b e = grind (arith, nat_tests)

  module _ (same_id : (info : Info) (s : Stats) → id_by k (made k info s) ≡ info_id_by k info) where
    still_absent : (xs : List Item) (info : Info) (s : Stats) (rest : List Info) → list_any (has_info k xs) rest ≡ false → list_any (λ m. nat_eq (k.info_id info) m) (map (info_id_by k) rest) ≡ false
        → list_any (has_info k (xs ++ made k info s ∷ [])) rest ≡ false
    still_absent xs info s [] h other = refl
    still_absent xs info s (x ∷ rest) h other =
        let p = or_parts (has_info k xs x) (list_any (has_info k xs) rest) h in
        let q = or_parts (nat_eq (k.info_id info) (k.info_id x)) (list_any (λ m. nat_eq (k.info_id info) m) (map (info_id_by k) rest)) other in
        let flipped : nat_eq (k.info_id x) (k.id_of (k.item_of info s)) ≡ false = ap (nat_eq (k.info_id x)) (same_id info s) ∙ differs (k.info_id info) (k.info_id x) q.0 in
        let here : has_info k (xs ++ made k info s ∷ []) x ≡ false = has_id-push (k.info_id x) xs (made k info s) ∙ ap₂ (λ a b. a || b) p.0 flipped in
        ap₂ (λ a b. a || b) here (still_absent xs info s rest p.1 q.1)

    pub absent_next : (xs : List Item) (info : Info) (s : Stats) (rest : List Info) → list_any (has_info k xs) (info ∷ rest) ≡ false → has_twice (map (info_id_by k) (info ∷ rest)) ≡ false
        → list_any (has_info k (xs ++ made k info s ∷ [])) rest ≡ false
    absent_next xs info s rest h once =
        still_absent xs info s rest (or_parts (has_info k xs info) (list_any (has_info k xs) rest) h).1 (or_parts (list_any (λ m. nat_eq (k.info_id info) m) (map (info_id_by k) rest)) (has_twice (map (info_id_by k) rest)) once).0

  pub once_next : (info : Info) (rest : List Info) → has_twice (map (info_id_by k) (info ∷ rest)) ≡ false → has_twice (map (info_id_by k) rest) ≡ false
  once_next info rest once = (or_parts (list_any (λ m. nat_eq (k.info_id info) m) (map (info_id_by k) rest)) (has_twice (map (info_id_by k) rest)) once).1

  pub absent_here : (xs : List Item) (info : Info) (rest : List Info) → list_any (has_info k xs) (info ∷ rest) ≡ false → has_info k xs info ≡ false
  absent_here xs info rest h = (or_parts (has_info k xs info) (list_any (has_info k xs) rest) h).0

  -- ---- tables

  module _ (items : TablesView → List Item) (put : TablesView → List Item → TablesView) (reads : (t : TablesView) (xs : List Item) → items (put t xs) ≡ xs)
      (writes : (t : TablesView) (xs ys : List Item) → put (put t xs) ys ≡ put t ys) where
    pub misfits : (t : TablesView) (old : List Item) (stats : List Stats) (info : Info) (rest : List Info) → None ≡ told_of k stats (info_id_by k info) → with_new put t old (new_items k stats (info ∷ rest)) ≡ Err Misfit
    misfits t old stats info rest e = ap (λ o. with_new put t old (option_and_then (λ item. option_map (λ xs. item ∷ xs) (new_items k stats rest)) (option_map (k.item_of info) o))) (sym e)

    pub adds : (v w : TablesView) (stats : List Stats) (info : Info) (s : Stats) (rest : List Info) → Some s ≡ told_of k stats (info_id_by k info) → w ≡ put v (items v ++ made k info s ∷ [])
        → with_new put w (items w) (new_items k stats rest) ≡ with_new put v (items v) (new_items k stats (info ∷ rest))
    adds v w stats info s rest is e =
        by (new_items k stats rest)
        ∙ ap (λ o. with_new put v (items v) (option_and_then (λ item. option_map (λ xs. item ∷ xs) (new_items k stats rest)) (option_map (k.item_of info) o))) is
      where
        now : items w ≡ items v ++ made k info s ∷ []
        now = ap items e ∙ reads v (items v ++ made k info s ∷ [])

        by : (o : Option (List Item)) → with_new put w (items w) o ≡ with_new put v (items v) (option_map (λ xs. made k info s ∷ xs) o)
        by (Some xs) =
            ap Ok (ap₂ (λ t ys. put t (ys ++ xs)) e now ∙ writes v _ _ ∙ ap (put v) (append_assoc (items v) (made k info s ∷ []) xs))
        by None = refl

-- ---- a line

-- a line without a fault
pub line_fits : (old : TablesView) (l : LineView) (t : TablesView) → repeats_id old l ≡ false → has_strange_id old l ≡ false → or_misfit (tables_after old l) ≡ Ok t → are_fitting t ≡ true → line_applied old l ≡ Ok t
unfolding line_applied
line_fits old l t none known after fits = rw (none, known) (by (tables_after old l) after)
  where
    by : (o : Option TablesView) → or_misfit o ≡ Ok t → fitting o ≡ Ok t
    by (Some x) e =
        let same : x ≡ t = (cc) in
        rw same (rw fits refl)
    by None e = absurd (cc)
