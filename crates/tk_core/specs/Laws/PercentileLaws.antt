-- What the bucket of a percentile says of the times that were added.
use Rattle.std.proofs.Common.{◌≡◌, ℕ, zero, suc, ◌+◌, ◌^◌, ◌<◌, ◌≤◌, Bool, true, false, cond, List, [], ◌∷◌, ◌++◌, length, take, get_or, Some, None, refl, sym, ap, ◌∙◌, lit≤, arith}
use Rattle.std.specs.Prelude.{filter, nat_le, nat_lt, ◌==◌, ◌&&◌}
use Rattle.std.specs.List.{filter_map}
use Rattle.std.proofs.lemmas.Bool.Decides.{nat_tests}
use Rattle.std.proofs.lemmas.List.{take_more}
use Rattle.tk_core.specs.Lists.{count_of}
use Rattle.tk_core.specs.Times.{bounds, reached, bucket_of, time_of, is_in, counts_from, row_of}
use Rattle.tk_core.specs.Percentiles.{total_of, IsBucketOf, IsHonest, shorter, begin_of, end_of, before_end}
use Rattle.tk_core.specs.declared.times.row.TimesRow.{TimesRow}
use Rattle.tk_core.specs.declared.times.call.TimesCall.{TimesCall}
use Rattle.tk_core.specs.declared.times.call.TimesCall.TheVariants.{Add, Enlist, Read}
use Rattle.tk_core.specs.Laws.TimesSteps.{bucket_few}

total_push : (counts : List ℕ) (count : ℕ) → total_of (counts ++ count ∷ []) ≡ total_of counts + count
total_push [] count = omega arith
total_push (c ∷ cs) count = let rest = total_push cs count in omega (arith, rest)

-- one bucket more
pub total_more : (counts : List ℕ) (bucket : ℕ) → bucket < length counts → total_of (take (bucket + 1) counts) ≡ total_of (take bucket counts) + get_or counts bucket 0
total_more counts bucket within = ap total_of (take_more counts bucket 0 within) ∙ total_push (take bucket counts) (get_or counts bucket 0)

-- ---- buckets and bounds

-- no bound is below the one before it, nor the first below this number
abbrev RiseFrom : ℕ → List ℕ → Type 0
RiseFrom a [] = Unit {0}
RiseFrom a (b ∷ bs) = (a ≤ b) × RiseFrom b bs

none_reached : (a time : ℕ) (bs : List ℕ) → RiseFrom a bs → time < a → reached bs time ≡ 0
none_reached a time [] rise lt = refl
none_reached a time (b ∷ bs) rise lt =
    let from = rise.0 in
    let below : time < b = omega (arith, from, lt) in
    let unreached : nat_le b time ≡ false = grind (arith, nat_tests, below) in
    rw (unreached, none_reached b time bs rise.1 below) refl

above : (a time k : ℕ) (bs : List ℕ) → RiseFrom a bs → time < a → k < length bs → time < get_or bs k 0
above a time k [] rise lt within = absurd (omega (arith, within))
above a time zero (b ∷ bs) rise lt within = let from = rise.0 in omega (arith, from, lt)
above a time (suc k) (b ∷ bs) rise lt within = let from = rise.0 in above b time k bs rise.1 (omega (arith, from, lt)) (omega (arith, within))

-- a time that has reached at most so many bounds is shorter than the next
is_below : (a time k : ℕ) (bs : List ℕ) → RiseFrom a bs → k < length bs → reached bs time ≤ k → time < get_or bs k 0
is_below a time k [] rise within le = absurd (omega (arith, within))
is_below a time zero (b ∷ bs) rise within le = go (nat_le b time) refl le
  where
    go : (c : Bool) → nat_le b time ≡ c → cond c 1 0 + reached bs time ≤ 0 → time < b
    go true is few = absurd (omega (arith, few))
    go false is few = grind (arith, nat_tests, is)
is_below a time (suc k) (b ∷ bs) rise within le = go (is_below b time k bs rise.1 (omega (arith, within))) (above b time k bs rise.1) (nat_le b time) refl le
  where
    go : (reached bs time ≤ k → time < get_or bs k 0) → (time < b → k < length bs → time < get_or bs k 0) → (c : Bool) → nat_le b time ≡ c → cond c 1 0 + reached bs time ≤ suc k → time < get_or bs k 0
    go rest over true is few = rest (omega (arith, few))
    go rest over false is few = over (grind (arith, nat_tests, is)) (omega (arith, within))

-- and one that is shorter than it has reached at most so many
is_within : (a time k : ℕ) (bs : List ℕ) → RiseFrom a bs → time < get_or bs k 0 → k < length bs → reached bs time ≤ k
is_within a time k [] rise lt within = absurd (omega (arith, within))
is_within a time zero (b ∷ bs) rise lt within =
    let unreached : nat_le b time ≡ false = grind (arith, nat_tests, lt) in
    rw (unreached, none_reached b time bs rise.1 lt) (omega arith)
is_within a time (suc k) (b ∷ bs) rise lt within = go (is_within b time k bs rise.1 lt (omega (arith, within))) (none_reached b time bs rise.1) (nat_le b time) refl
  where
    go : reached bs time ≤ k → (time < b → reached bs time ≡ 0) → (c : Bool) → nat_le b time ≡ c → cond c 1 0 + reached bs time ≤ suc k
    go few none true is = omega (arith, few)
    go few none false is = let zero_of = none (grind (arith, nat_tests, is)) in omega (arith, zero_of)

rise : RiseFrom 0 bounds
rise = (lit≤ tt, (lit≤ tt, (lit≤ tt, (lit≤ tt, (lit≤ tt, (lit≤ tt, (lit≤ tt, (lit≤ tt, (lit≤ tt, (lit≤ tt, (lit≤ tt, (lit≤ tt, (lit≤ tt, tt)))))))))))))

-- a time lies in one of the first buckets exactly where it is shorter than the bound that ends them
same_test : (k time : ℕ) → k < 13 → nat_lt (bucket_of time) (k + 1) ≡ nat_lt time (get_or bounds k 0)
same_test k time few = go (nat_lt time (get_or bounds k 0)) refl
  where
    go : (b : Bool) → nat_lt time (get_or bounds k 0) ≡ b → nat_lt (bucket_of time) (k + 1) ≡ b
    go true is =
        let lt : time < get_or bounds k 0 = grind (arith, nat_tests, is) in
        let le : bucket_of time ≤ k = is_within 0 time k bounds rise lt few in
        grind (arith, nat_tests, le)
    go false is =
        let not_below : nat_lt (bucket_of time) (k + 1) ≡ true → nat_lt time (get_or bounds k 0) ≡ true =
        λ e. let le : bucket_of time ≤ k = grind (arith, nat_tests, e) in let lt = is_below 0 time k bounds rise few le in grind (arith, nat_tests, lt) in
        other (nat_lt (bucket_of time) (k + 1)) refl not_below
      where
        other : (c : Bool) → nat_lt (bucket_of time) (k + 1) ≡ c → (nat_lt (bucket_of time) (k + 1) ≡ true → nat_lt time (get_or bounds k 0) ≡ true) → nat_lt (bucket_of time) (k + 1) ≡ false
        other true e below = let shorter_then : nat_lt time (get_or bounds k 0) ≡ true = below e in absurd cc
        other false e below = e

-- ---- counts

-- how many of some times lie in so many buckets, from this one on
abbrev lying : ℕ → ℕ → List ℕ → ℕ
lying from many times = length (filter (λ time. nat_le from (bucket_of time) && nat_lt (bucket_of time) (from + many)) times)

count_one : (b : Bool) (time : ℕ) (times : List ℕ) → length (cond b (time ∷ times) times) ≡ cond b 1 0 + length times
count_one true time times = omega arith
count_one false time times = omega arith

abbrev among : ℕ → ℕ → ℕ → Bool
among from many n = nat_le from n && nat_lt n (from + many)

split_one : (from many n : ℕ) → cond (among from (suc many) n) 1 0 ≡ cond (n == from) 1 0 + cond (among (from + 1) many n) 1 0
split_one from many n = grind (arith, nat_tests)

none_among : (from n : ℕ) → among from 0 n ≡ false
none_among from n = grind (arith, nat_tests)

split : (from many : ℕ) (times : List ℕ) → lying from (suc many) times ≡ length (filter (λ time. bucket_of time == from) times) + lying (from + 1) many times
split from many [] = refl
split from many (t ∷ ts) =
    rw (
      count_one (among from (suc many) (bucket_of t)) t (filter (λ time. among from (suc many) (bucket_of time)) ts),
      count_one (bucket_of t == from) t (filter (λ time. bucket_of time == from) ts),
      count_one (among (from + 1) many (bucket_of t)) t (filter (λ time. among (from + 1) many (bucket_of time)) ts),
    ) (let one = split_one from many (bucket_of t) in let rest = split from many ts in omega (arith, one, rest))

none_lie : (from : ℕ) (times : List ℕ) → lying from 0 times ≡ 0
none_lie from [] = refl
none_lie from (t ∷ ts) = rw (none_among from (bucket_of t)) (none_lie from ts)

few_pass : {X : Type 0} (test : X → Bool) (xs : List X) → length (filter test xs) ≤ length xs
few_pass test [] = lit≤ tt
few_pass test (x ∷ xs) = go (test x) (few_pass test xs)
  where
    go : (b : Bool) → length (filter test xs) ≤ length xs → length (cond b (x ∷ filter test xs) (filter test xs)) ≤ suc (length xs)
    go true le = omega (arith, le)
    go false le = omega (arith, le)

-- the times that calls add
abbrev times_of : List TimesCall → List ℕ
times_of calls = filter_map time_of calls

in_bucket : (k : ℕ) (calls : List TimesCall) → length (filter (is_in k) calls) ≡ length (filter (λ time. bucket_of time == k) (times_of calls))
in_bucket k [] = refl
in_bucket k (Add time ∷ calls) =
    rw (count_one (bucket_of time == k) time (filter (λ t. bucket_of t == k) (times_of calls)), ← in_bucket k calls) (go (bucket_of time == k))
  where
    go : (b : Bool) → length (cond b (Add time ∷ filter (is_in k) calls) (filter (is_in k) calls)) ≡ cond b 1 0 + length (filter (is_in k) calls)
    go true = omega arith
    go false = omega arith
in_bucket k (Enlist ∷ calls) = in_bucket k calls
in_bucket k (Read ∷ calls) = in_bucket k calls

-- of fewer than 2^64 calls no count has stopped
count_is : (k : ℕ) (calls : List TimesCall) → length calls < 2 ^ 64 → count_of (is_in k) calls ≡ length (filter (λ time. bucket_of time == k) (times_of calls))
unfolding count_of
count_is k calls few = let le = few_pass (is_in k) calls in let same = in_bucket k calls in omega (arith, few, le, same)

-- the first counts add up to the times that lie in their buckets
first_counts : (calls : List TimesCall) → length calls < 2 ^ 64 → (from k many : ℕ) → k ≤ many → total_of (take k (counts_from from many calls)) ≡ lying from k (times_of calls)
unfolding counts_from
first_counts calls few from zero many le = sym (none_lie from (times_of calls))
first_counts calls few from (suc k) zero le = absurd (omega (arith, le))
first_counts calls few from (suc k) (suc many) le =
    rw (count_is from calls few, first_counts calls few (from + 1) k many (omega (arith, le))) (sym (split from k (times_of calls)))

take_all : (calls : List TimesCall) (from many : ℕ) → take many (counts_from from many calls) ≡ counts_from from many calls
unfolding counts_from
take_all calls from zero = refl
take_all calls from (suc many) = ap (λ cs. count_of (is_in from) calls ∷ cs) (take_all calls (from + 1) many)

-- each time lies in a bucket
all_lie : (times : List ℕ) → lying 0 14 times ≡ length times
all_lie [] = refl
all_lie (t ∷ ts) =
    let few = bucket_few t in
    let in_one : among 0 14 (bucket_of t) ≡ true = grind (arith, nat_tests, few) in
    rw (in_one, all_lie ts) refl

all_counts : (calls : List TimesCall) → length calls < 2 ^ 64 → total_of (counts_from 0 14 calls) ≡ length (times_of calls)
all_counts calls few = ap total_of (sym (take_all calls 0 14)) ∙ (first_counts calls few 0 14 14 (lit≤ tt) ∙ all_lie (times_of calls))

-- those of the first buckets are the times that are shorter than the bound that ends them
lie_shorter : (k : ℕ) (times : List ℕ) → k < 13 → lying 0 (k + 1) times ≡ shorter (get_or bounds k 0) times
lie_shorter k [] few = refl
lie_shorter k (t ∷ ts) few =
    let same : among 0 (k + 1) (bucket_of t) ≡ nat_lt t (get_or bounds k 0) = same_among k (bucket_of t) ∙ same_test k t few in
    rw (same, count_one (nat_lt t (get_or bounds k 0)) t (filter (λ time. among 0 (k + 1) (bucket_of time)) ts), lie_shorter k ts few) (sym (count_one (nat_lt t (get_or bounds k 0)) t (filter (λ time. nat_lt time (get_or bounds k 0)) ts)))
  where
    same_among : (k n : ℕ) → among 0 (k + 1) n ≡ nat_lt n (k + 1)
    same_among k n = grind (arith, nat_tests)

none_shorter : (times : List ℕ) → shorter 0 times ≡ 0
none_shorter [] = refl
none_shorter (t ∷ ts) = let longer : nat_lt t 0 ≡ false = grind (arith, nat_tests) in rw longer (none_shorter ts)

before_bucket : (k : ℕ) (times : List ℕ) → k < 14 → lying 0 k times ≡ shorter (begin_of k) times
before_bucket zero times few = none_lie 0 times ∙ sym (none_shorter times)
before_bucket (suc k) times few = ap (λ n. lying 0 n times) (omega arith) ∙ lie_shorter k times (omega (arith, few))

through_bucket : (k : ℕ) (times : List ℕ) → k < 14 → lying 0 (k + 1) times ≡ before_end (end_of k) times
through_bucket k times few = go (nat_lt k 13) refl
  where
    go : (b : Bool) → nat_lt k 13 ≡ b → lying 0 (k + 1) times ≡ before_end (cond b (Some (get_or bounds k 0)) None) times
    go true is = lie_shorter k times (grind (arith, nat_tests, is))
    go false is =
        let last : k + 1 ≡ 14 = grind (arith, nat_tests, is, few) in
        ap (λ n. lying 0 n times) last ∙ all_lie times

-- the bucket of a percentile says what is true of the times that were added, where these are fewer than 2^64
pub percentile_is_honest : (percent : ℕ) (opening : TimesRow) (calls : List TimesCall) (k : ℕ) → length calls < 2 ^ 64 → k < 14 → IsBucketOf percent (row_of opening calls).counts k → IsHonest percent k (filter_map time_of calls)
unfolding row_of
percentile_is_honest percent opening calls k few within is =
    let before = first_counts calls few 0 k 14 (omega (arith, within)) ∙ before_bucket k (times_of calls) within in
    let through = first_counts calls few 0 (k + 1) 14 (omega (arith, within)) ∙ through_bucket k (times_of calls) within in
    let all = all_counts calls few in
    (rw (← before, ← all) is.0, rw (← through, ← all) is.1)
