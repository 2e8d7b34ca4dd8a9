-- A task more among the members of a step.
use Rattle.std.proofs.Common.{◌≡◌, ℕ, zero, suc, map, take, List, [], ◌∷◌, Bool, true, false, cond, nat_eq, Some, None, refl, ap, ◌∙◌}
use Rattle.std.specs.Map.{lookup}
use Rattle.indexmap.specs.IndexMap.{insert_entry}
use Rattle.tk_stream.specs.declared.tables.task.Task.{Task}
use Rattle.tk_odd.specs.declared.gain.Gain.{Gain}
use Rattle.tk_odd.specs.declared.members.Member.{Member}
use Rattle.tk_odd.specs.Gains.{plus}
use Rattle.tk_odd.specs.Inner.{shown}
use Rattle.tk_odd.specs.Members.{moved_by, with_gain}
use Rattle.tk_odd.specs.Places.{place_of}

module _ (t : Task) (gain : Gain) (v : Member) (place : v.place.items ≡ place_of t.info) where
  -- a task that isn't there goes last
  pub inserted_new : (es : List (ℕ × Member)) → v.moved ≡ moved_by t gain → None ≡ lookup (nat_eq t.info.id) es
      → shown (insert_entry nat_eq es t.info.id v) ≡ with_gain t gain (shown es)
  inserted_new [] is none = λ i. (t.info.id, place i, is i) ∷ []
  inserted_new (e ∷ es) is none = by (nat_eq t.info.id e.0) none (inserted_new es is)
    where
      by : (b : Bool) → None ≡ cond b (Some e.1) (lookup (nat_eq t.info.id) es)
          → (None ≡ lookup (nat_eq t.info.id) es → shown (insert_entry nat_eq es t.info.id v) ≡ with_gain t gain (shown es))
          → shown (cond b ((e.0, v) ∷ es) (e ∷ insert_entry nat_eq es t.info.id v))
          ≡ cond b ((e.0, place_of t.info, moved_by t (plus e.1.moved.gain gain)) ∷ shown es) ((e.0, e.1.place.items, e.1.moved) ∷ with_gain t gain (shown es))
      by true p more = absurd (cc)
      by false p more = ap (λ xs. (e.0, e.1.place.items, e.1.moved) ∷ xs) (more p)

  -- the gain of one that is there is added to
  pub inserted_sum : (old : Member) (es : List (ℕ × Member)) → v.moved ≡ moved_by t (plus old.moved.gain gain) → Some old ≡ lookup (nat_eq t.info.id) es
      → shown (insert_entry nat_eq es t.info.id v) ≡ with_gain t gain (shown es)
  inserted_sum old [] is some = absurd (cc)
  inserted_sum old (e ∷ es) is some = by (nat_eq t.info.id e.0) some (inserted_sum old es is)
    where
      by : (b : Bool) → Some old ≡ cond b (Some e.1) (lookup (nat_eq t.info.id) es)
          → (Some old ≡ lookup (nat_eq t.info.id) es → shown (insert_entry nat_eq es t.info.id v) ≡ with_gain t gain (shown es))
          → shown (cond b ((e.0, v) ∷ es) (e ∷ insert_entry nat_eq es t.info.id v))
          ≡ cond b ((e.0, place_of t.info, moved_by t (plus e.1.moved.gain gain)) ∷ shown es) ((e.0, e.1.place.items, e.1.moved) ∷ with_gain t gain (shown es))
      by true p more =
          let same : old ≡ e.1 = cc in
          let now : v.moved ≡ moved_by t (plus e.1.moved.gain gain) = is ∙ ap (λ (m : Member). moved_by t (plus m.moved.gain gain)) same in
          λ i. (e.0, place i, now i) ∷ shown es
      by false p more = ap (λ xs. (e.0, e.1.place.items, e.1.moved) ∷ xs) (more p)

-- what the first so many of those did that are kept
pub moved_shown : (n : ℕ) (es : List (ℕ × Member)) → map (λ e. e.1.moved) (take n es) ≡ map (λ x. x.2) (take n (shown es))
moved_shown zero [] = refl
moved_shown zero (e ∷ es) = refl
moved_shown (suc n) [] = refl
moved_shown (suc n) (e ∷ es) = ap (λ xs. e.1.moved ∷ xs) (moved_shown n es)
