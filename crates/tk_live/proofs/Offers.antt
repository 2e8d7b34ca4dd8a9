-- What was recorded, kept and taken.
use Rattle.std.proofs.Common.{◌≡◌, ℕ, ◌+◌, ◌-◌, ◌<◌, ◌≤◌, ◌==◌, Bool, true, false, not, cond, List, [], ◌∷◌, ◌++◌, length, take, drop, refl, sym, ap, ◌∙◌, subst, arith, leb, leb-true, leb-false, length-append, length-drop}
use Rattle.std.specs.Prelude.{map, fold}
use Rattle.std.specs.List.{AllByRecursion, items_where_true}
use Rattle.std.proofs.lemmas.List.{map-append, length-map, append-nil, take_all}
use Rattle.std.proofs.lemmas.List.Sums.{sum_by_push}
use Rattle.tk_ids.specs.IdBlocks.{last_number}
use Rattle.tk_events.specs.declared.event.Shown.{Shown}
use Rattle.tk_events.specs.declared.item.Offer.{Offer}
use Rattle.tk_events.specs.declared.recorder.Recorded.{Recorded}
use Rattle.tk_events.specs.declared.recorder.Recorded.TheVariants.{Kept, DroppedFull}
use Rattle.tk_events.specs.declared.event.Shown.TheVariants.{MadeTask, MadeResource, MadeOp, Polled}
use Rattle.tk_events.specs.Handles.{Recording, IsSameRecorder, dropped_by, next_offer, offers_made, with_kept, with_refused}
use Rattle.tk_events.specs.Offers.{is_task, is_resource, is_op, tasks_in, resources_in, ops_in, kind_of}
use Rattle.tk_aggregator.specs.Aggregates.{dropped_in}
use Rattle.tk_aggregator.specs.Contents.{Content, content_of}
use Rattle.tk_live.specs.Ran.{dropped_as, dropped_of, lost_first}
use Rattle.tk_live.specs.Runs.{offer_content, Numbers, Offered}
use Rattle.tk_live.proofs.Between.{kept_apart}
use Rattle.tk_live.proofs.Lists.{picked_push, left_push, picked_few, all_push}

-- the numbers of items with one more, where the event makes one
abbrev pub one_more : Numbers → Shown → Numbers
one_more numbers event = record {
  tasks = numbers.tasks + cond (is_task event) 1 0;
  resources = numbers.resources + cond (is_resource event) 1 0;
  ops = numbers.ops + cond (is_op event) 1 0;
}

-- what is no more than another, and isn't it, is below it
below : (n m : ℕ) → n ≤ m → (n ≡ m → ⊥) → n < m
below n m le ne = by (leb m n) refl
  where
    by : (b : Bool) → leb m n ≡ b → n < m
    by true is = let high = leb-true m n is in absurd (ne (omega (arith, le, high)))
    by false is = leb-false m n is

-- an offer that was kept, or refused, is one more that was recorded
module _ (r new : Recording) (capacity : ℕ) (numbers : Numbers) (told : List Content) (kept : List Bool) (o : Offered r capacity numbers told kept) (one_each : length kept ≡ length told) (same : IsSameRecorder r new) (left : offers_made r ≡ r.limit → ⊥) (event : Shown) where
  -- one more was left
  few_more : length (told ++ content_of event ∷ []) ≤ last_number
  few_more = let lt = below (length told) last_number o.few (λ e. left (o.made ∙ (e ∙ sym o.limit))) in omega (arith, lt, length-append told (content_of event ∷ []))

  kept_more : new ≡ with_kept r (next_offer r event) → Offered new capacity (one_more numbers event) (told ++ content_of event ∷ []) (kept ++ true ∷ [])
  kept_more is =
      let kept_is : new.kept ≡ r.kept ++ next_offer r event ∷ [] = ap (λ (x : Recording). x.kept) is in
      let refused_is : new.refused ≡ r.refused = ap (λ (x : Recording). x.refused) is in
      record {
        number = same.number ∙ o.number;
        alone = same.recorders ∙ o.alone;
        capacity_is = same.capacity ∙ o.capacity_is;
        limit = same.limit ∙ o.limit;
        made = omega (arith, o.made, ap length kept_is, ap length refused_is, length-append r.kept (next_offer r event ∷ []), length-append told (content_of event ∷ []));
        few = few_more;
        picks = ap (map offer_content) kept_is ∙ (map-append offer_content r.kept (next_offer r event ∷ []) ∙ (ap (λ l. l ++ content_of event ∷ []) o.picks ∙ sym (picked_push kept told true (content_of event) one_each)));
        lost = ap (map offer_content) refused_is ∙ (o.lost ∙ (sym (append-nil (items_where_true (map not kept) told)) ∙ sym (left_push kept told true (content_of event) one_each)));
        tasks_are = omega (arith, o.tasks_are, ap tasks_in kept_is, ap tasks_in refused_is, sum_by_push (λ (x : Offer). cond (is_task x.event) 1 0) r.kept (next_offer r event));
        resources_are = omega (arith, o.resources_are, ap resources_in kept_is, ap resources_in refused_is, sum_by_push (λ (x : Offer). cond (is_resource x.event) 1 0) r.kept (next_offer r event));
        ops_are = omega (arith, o.ops_are, ap ops_in kept_is, ap ops_in refused_is, sum_by_push (λ (x : Offer). cond (is_op x.event) 1 0) r.kept (next_offer r event));
      }

  refused_more : new ≡ with_refused r (next_offer r event) → Offered new capacity (one_more numbers event) (told ++ content_of event ∷ []) (kept ++ false ∷ [])
  refused_more is =
      let kept_is : new.kept ≡ r.kept = ap (λ (x : Recording). x.kept) is in
      let refused_is : new.refused ≡ r.refused ++ next_offer r event ∷ [] = ap (λ (x : Recording). x.refused) is in
      record {
        number = same.number ∙ o.number;
        alone = same.recorders ∙ o.alone;
        capacity_is = same.capacity ∙ o.capacity_is;
        limit = same.limit ∙ o.limit;
        made = omega (arith, o.made, ap length kept_is, ap length refused_is, length-append r.refused (next_offer r event ∷ []), length-append told (content_of event ∷ []));
        few = few_more;
        picks = ap (map offer_content) kept_is ∙ (o.picks ∙ (sym (append-nil (items_where_true kept told)) ∙ sym (picked_push kept told false (content_of event) one_each)));
        lost = ap (map offer_content) refused_is ∙ (map-append offer_content r.refused (next_offer r event ∷ []) ∙ (ap (λ l. l ++ content_of event ∷ []) o.lost ∙ sym (left_push kept told false (content_of event) one_each)));
        tasks_are = omega (arith, o.tasks_are, ap tasks_in kept_is, ap tasks_in refused_is, sum_by_push (λ (x : Offer). cond (is_task x.event) 1 0) r.refused (next_offer r event));
        resources_are = omega (arith, o.resources_are, ap resources_in kept_is, ap resources_in refused_is, sum_by_push (λ (x : Offer). cond (is_resource x.event) 1 0) r.refused (next_offer r event));
        ops_are = omega (arith, o.ops_are, ap ops_in kept_is, ap ops_in refused_is, sum_by_push (λ (x : Offer). cond (is_op x.event) 1 0) r.refused (next_offer r event));
      }

  -- whatever became of the offer: it was kept, or refused by a console that held its capacity of what it kept
  pub recorded : (became : Recorded) → (became ≡ Kept → new ≡ with_kept r (next_offer r event)) → (became ≡ DroppedFull → new ≡ with_refused r (next_offer r event)) → (became ≡ DroppedFull → r.recorders ≡ 1 → r.capacity + r.gone ≤ length r.kept)
      → (mark : Bool) × Offered new capacity (one_more numbers event) (told ++ content_of event ∷ []) (kept ++ mark ∷ []) × (mark ≡ false → capacity + r.gone ≤ length (items_where_true kept told))
  recorded Kept keeps drops full = (true, kept_more (keeps refl), λ no. absurd cc)
  recorded DroppedFull keeps drops full = (false, refused_more (drops refl), λ no. let le = full refl o.alone in omega (arith, le, o.capacity_is, length-map r.kept offer_content, ap length o.picks))

-- a console that holds its capacity, but for what was taken by the last line, had as many recordings since that
pub since_line : (n capacity gone : ℕ) (kept : List Bool) (told : List Content) → length kept ≡ length told → n ≤ length told → gone ≡ length (items_where_true (take n kept) (take n told))
    → capacity + gone ≤ length (items_where_true kept told) → n + capacity ≤ length kept
since_line n capacity gone kept told one_each low known full =
    let rest = picked_few (drop n kept) (drop n told) in
    let all : length (items_where_true kept told) ≡ length (items_where_true (take n kept) (take n told)) + length (items_where_true (drop n kept) (drop n told)) =
    ap length (kept_apart n kept told) ∙ length-append (items_where_true (take n kept) (take n told)) (items_where_true (drop n kept) (drop n told)) in
    omega (arith, one_each, low, known, full, rest, all, length-drop n kept)

-- a recorder that met the taker offered the same
pub offered_still : (r : Recording) (known capacity : ℕ) (numbers : Numbers) (told : List Content) (kept : List Bool) → Offered r capacity numbers told kept → Offered (record r { gone = known }) capacity numbers told kept
offered_still r known capacity numbers told kept o = record {
  number = o.number;
  alone = o.alone;
  capacity_is = o.capacity_is;
  limit = o.limit;
  made = o.made;
  few = o.few;
  picks = o.picks;
  lost = o.lost;
  tasks_are = o.tasks_are;
  resources_are = o.resources_are;
  ops_are = o.ops_are;
}

-- ---- totals of what was dropped

same_kind : (event : Shown) → dropped_as (content_of event) ≡ kind_of event
same_kind (MadeTask info ledger caller times) = refl
same_kind (MadeResource info ledger caller) = refl
same_kind (MadeOp info ledger caller) = refl
same_kind (Polled op) = refl

count_from : (k n : ℕ) (os : List Offer) → fold (λ a (c : Content). a + cond (dropped_as c == k) 1 0) n (map offer_content os) ≡ fold (λ a (o : Offer). a + cond (kind_of o.event == k) 1 0) n os
count_from k n [] = refl
count_from k n (o ∷ os) =
    ap (λ m. fold (λ a (c : Content). a + cond (dropped_as c == k) 1 0) (n + cond (m == k) 1 0) (map offer_content os)) (same_kind o.event)
    ∙ count_from k (n + cond (kind_of o.event == k) 1 0) os

-- what the recorder dropped is what was recorded and lost
pub dropped_all : (r : Recording) (capacity : ℕ) (numbers : Numbers) (told : List Content) (kept : List Bool) → Offered r capacity numbers told kept → length kept ≡ length told → dropped_in (dropped_by r) ≡ dropped_of (lost_first kept told (length told))
dropped_all r capacity numbers told kept o one_each =
    (λ i. record { tasks = sym (count_from 0 0 r.refused) i; resources = sym (count_from 1 0 r.refused) i; ops = sym (count_from 2 0 r.refused) i })
    ∙ ap dropped_of (o.lost ∙ sym (lost_all kept told one_each))
  where
    lost_all : (ks : List Bool) (xs : List Content) → length ks ≡ length xs → lost_first ks xs (length xs) ≡ items_where_true (map not ks) xs
    lost_all ks xs e = λ i. items_where_true (map not (take_all (length xs) ks (omega (arith, e)) i)) (take_all (length xs) xs (omega arith) i)

-- what holds of each offer that was kept, and of this one, holds of each then
pub all_kept : (P : Offer → Type 0) (r new : Recording) (event : Shown) (became : Recorded) → (became ≡ Kept → new ≡ with_kept r (next_offer r event)) → (became ≡ DroppedFull → new ≡ with_refused r (next_offer r event))
    → P (next_offer r event) → AllByRecursion P r.kept → AllByRecursion P new.kept
all_kept P r new event Kept keeps drops one all = subst (λ (x : Recording). AllByRecursion P x.kept) (sym (keeps refl)) (all_push P r.kept (next_offer r event) all one)
all_kept P r new event DroppedFull keeps drops one all = subst (λ (x : Recording). AllByRecursion P x.kept) (sym (drops refl)) all
