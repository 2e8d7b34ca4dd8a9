-- Poll counts of a resource that has none go last.
use Rattle.std.proofs.Common.{◌≡◌, List, [], ◌∷◌, ◌++◌, Bool, true, false, cond, Some, None, refl, ap, nat_eq}
use Rattle.tk_stream.specs.Tables.{PollCounts, counts_id, item_with, put_item}

put_after : (c x : PollCounts) (xs : List PollCounts) (b : Bool) → (item_with counts_id c.0 xs ≡ None → put_item counts_id c xs ≡ xs ++ c ∷ [])
    → cond b (Some x) (item_with counts_id c.0 xs) ≡ None → cond b (c ∷ xs) (x ∷ put_item counts_id c xs) ≡ x ∷ (xs ++ c ∷ [])
put_after c x xs true rest absent = absurd (cc)
put_after c x xs false rest absent = ap (λ ys. x ∷ ys) (rest absent)

pub put_last : (c : PollCounts) (cs : List PollCounts) → item_with counts_id c.0 cs ≡ None → put_item counts_id c cs ≡ cs ++ c ∷ []
put_last c [] absent = refl
put_last c (x ∷ xs) absent = put_after c x xs (nat_eq c.0 x.0) (put_last c xs) absent
