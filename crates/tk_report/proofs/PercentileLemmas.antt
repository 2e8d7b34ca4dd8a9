-- The bucket of a percentile is the one that is shown, and where it begins and ends.
use Rattle.std.proofs.Common.{◌≡◌, ℕ, zero, suc, ◌+◌, ◌-◌, ◌*◌, ◌<◌, ◌≤◌, Bool, true, false, cond, List, [], ◌∷◌, take, get_or, slice_get, unwrap_or, Option, Some, None, refl, ap, sym, ◌∙◌, add-one, arith, subst}
use Rattle.std.specs.Prelude.{nat_le, nat_lt, ◌==◌}
use Rattle.std.specs.List.{position_from}
use Rattle.std.proofs.lemmas.Bool.{ne_eqb}
use Rattle.std.proofs.lemmas.Bool.Decides.{nat_tests}
use Rattle.std.proofs.lemmas.Option.{slice_get-get_or, slice_get_past, unwrap_or-slice_get}
use Rattle.tk_core.specs.Percentiles.{IsPercentile, begin_of, end_of, total_of}
use Rattle.tk_core.specs.Times.{bounds}
use Rattle.tk_report.specs.Timed.{percentile_of, sums_from}

-- the first sum that reaches what is needed
found : (need before k : ℕ) (counts : List ℕ) (b : ℕ) → 100 * (before + total_of (take b counts)) < need → need ≤ 100 * (before + total_of (take (suc b) counts))
    → position_from (λ seen. nat_le need (100 * seen)) k (sums_from before counts) ≡ Some (k + b)
found need before k [] zero lt le = absurd (omega (arith, lt, le))
found need before k [] (suc b) lt le = absurd (omega (arith, lt, le))
found need before k (n ∷ ns) zero lt le =
    let enough : need ≤ 100 * (before + n) = omega (arith, le) in
    let yes : nat_le need (100 * (before + n)) ≡ true = grind (arith, nat_tests, enough) in
    rw yes (ap Some (omega arith))
found need before k (n ∷ ns) (suc b) lt le =
    let few : 100 * (before + n) < need = omega (arith, lt) in
    let no_yet : nat_le need (100 * (before + n)) ≡ false = grind (arith, nat_tests, few) in
    rw no_yet (found need (before + n) (k + 1) ns b (omega (arith, lt)) (omega (arith, le)) ∙ ap Some (omega arith))

any_counted : (percent total few : ℕ) → 100 * few < percent * total → (total == 0) ≡ false
any_counted percent zero few lt = absurd (omega (arith, lt))
any_counted percent (suc total) few lt = ne_eqb (suc total) 0 (λ e. omega (arith, e))

pub percentile_is : (percent : ℕ) (counts : List ℕ) (answer : Option ℕ) → IsPercentile percent counts answer → answer ≡ percentile_of percent counts
percentile_is percent counts None none = rw none refl
percentile_is percent counts (Some b) is =
    let need = percent * total_of counts in
    let any = any_counted percent (total_of counts) (total_of (take b counts)) is.0 in
    let less : 100 * (0 + total_of (take b counts)) < need = let lt = is.0 in omega (arith, lt) in
    let reached : need ≤ 100 * (0 + total_of (take (suc b) counts)) = let le = subst (λ k. need ≤ 100 * total_of (take k counts)) (add-one b) is.1 in omega (arith, le) in
    rw any (ap Some (omega arith) ∙ sym (found need 0 0 counts b less reached))

-- ---- where buckets begin and end

pub begin_is : (bucket : ℕ) → (bucket ≡ 0 → ⊥) → unwrap_or (slice_get bounds (bucket - 1)) 0 ≡ begin_of bucket
begin_is zero some = absurd (some refl)
begin_is (suc before) some = unwrap_or-slice_get bounds (suc before - 1) 0 ∙ ap (λ k. get_or bounds k 0) (omega arith)

pub end_is : (bucket : ℕ) → slice_get bounds bucket ≡ end_of bucket
end_is bucket = go (nat_lt bucket 13) refl
  where
    go : (b : Bool) → nat_lt bucket 13 ≡ b → slice_get bounds bucket ≡ cond b (Some (get_or bounds bucket 0)) None
    go true is = slice_get-get_or bounds bucket 0 (grind (arith, nat_tests, is))
    go false is = slice_get_past bounds bucket (grind (arith, nat_tests, is))
