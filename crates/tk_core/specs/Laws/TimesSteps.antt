-- What one more entry does to the row that a history of a histogram of times leaves.
use Rattle.std.proofs.Common.{subst, ◌≡◌, ℕ, zero, suc, ◌+◌, ◌^◌, ◌≤◌, ◌<◌, max, Bool, true, false, cond, List, [], ◌∷◌, ◌++◌, length, get_or, set, refl, lit≤, arith}
use Rattle.std.specs.Prelude.{nat_le, ◌==◌}
use Rattle.std.proofs.lemmas.Bool.{ne_eqb}
use Rattle.std.proofs.lemmas.Bool.Decides.{nat_tests}
use Rattle.tk_core.specs.Lists.{capped, count_of}
use Rattle.tk_core.specs.Fold.{is_accepted, fold_of, answer_at, Follows}
use Rattle.tk_core.specs.Times.{bounds, reached, bucket_of, is_in, counts_from, row_of, times_kind}
use Rattle.tk_core.specs.declared.reply.Reply.{Reply}
use Rattle.tk_core.specs.declared.reply.Reply.TheVariants.{Number}
use Rattle.tk_core.specs.declared.times.row.TimesRow.{TimesRow}
use Rattle.tk_core.specs.declared.times.call.TimesCall.{TimesCall}
use Rattle.tk_core.specs.declared.times.call.TimesCall.TheVariants.{Add, Enlist, Read}
use Rattle.tk_core.specs.Laws.Pushed.{pushed, count_push}
use Rattle.tk_core.specs.Laws.Folded.{after, Grows, follows_from}
use Rattle.tk_core.specs.Laws.Handles.{drawn}

-- counts with one more in a bucket
abbrev pub with_one_more : List ℕ → ℕ → List ℕ
with_one_more counts k = set counts k (capped (get_or counts k 0 + 1))

-- a row after an accepted call
abbrev pub changed : TimesRow → TimesCall → TimesRow
changed row (Add time) = record row { longest = max row.longest time; counts = with_one_more row.counts (bucket_of time) }
changed row Enlist = record row { handles = capped (row.handles + 1) }
changed row Read = row

-- a time has reached at most all bounds
reached_few : (bs : List ℕ) (time : ℕ) → reached bs time ≤ length bs
reached_few [] time = omega arith
reached_few (b ∷ bs) time = go (nat_le b time) (reached_few bs time)
  where
    go : (c : Bool) → reached bs time ≤ length bs → cond c 1 0 + reached bs time ≤ suc (length bs)
    go true le = omega arith
    go false le = omega arith

pub bucket_few : (time : ℕ) → bucket_of time < 14
bucket_few time = let le = reached_few bounds time in omega (arith, le)

-- a call that adds no time leaves the counts
counts_stay : (call : TimesCall) → ((j : ℕ) → is_in j call ≡ false) → (k n : ℕ) (calls : List TimesCall) → counts_from k n (calls ++ call ∷ []) ≡ counts_from k n calls
unfolding counts_from
counts_stay call adds k zero calls = refl
counts_stay call adds k (suc n) calls = rw (count_push (is_in k) calls call, adds k, counts_stay call adds (k + 1) n calls) refl

-- so do buckets above that of the time
above_stay : (time k n : ℕ) (calls : List TimesCall) → bucket_of time < k → counts_from k n (calls ++ Add time ∷ []) ≡ counts_from k n calls
unfolding counts_from
above_stay time k zero calls lt = refl
above_stay time k (suc n) calls lt =
    let other : (bucket_of time == k) ≡ false = ne_eqb _ _ (λ e. absurd (omega (arith, e, lt))) in
    rw (count_push (is_in k) calls (Add time), other, above_stay time (k + 1) n calls (omega (arith, lt))) refl

-- a time adds one to its bucket
one_more : (time k j n : ℕ) (calls : List TimesCall) → j < n → bucket_of time ≡ k + j → counts_from k n (calls ++ Add time ∷ []) ≡ with_one_more (counts_from k n calls) j
unfolding counts_from
one_more time k j zero calls lt e = absurd (omega (arith, lt))
one_more time k zero (suc n) calls lt e =
    let same : (bucket_of time == k) ≡ true = grind (arith, nat_tests, e) in
    rw (count_push (is_in k) calls (Add time), same, above_stay time (k + 1) n calls (omega (arith, e))) refl
one_more time k (suc j) (suc n) calls lt e =
    let other : (bucket_of time == k) ≡ false = ne_eqb _ _ (λ i. absurd (omega (arith, e, i))) in
    rw (count_push (is_in k) calls (Add time), other, one_more time (k + 1) j n calls (omega (arith, lt)) (omega (arith, e))) refl

-- one more accepted call
changed_by : (opening : TimesRow) (calls : List TimesCall) (call : TimesCall) → row_of opening (calls ++ call ∷ []) ≡ changed (row_of opening calls) call
unfolding row_of
changed_by opening calls (Add time) = rw (one_more time 0 (bucket_of time) 14 calls (bucket_few time) (omega arith)) (simp pushed)
changed_by opening calls Enlist = rw (counts_stay Enlist (λ j. refl) 0 14 calls) (simp pushed)
changed_by opening calls Read = rw (counts_stay Read (λ j. refl) 0 14 calls) (simp pushed)

-- what the calls of every legal history keep: at most 2^62 handles are drawn
abbrev pub Holds : TimesRow → List TimesCall → Type 0
Holds opening calls = (row_of opening calls).handles ≤ 2 ^ 62

within : (row : TimesRow) (call : TimesCall) → is_accepted (answer_at times_kind row call) ≡ true → row.handles ≤ 2 ^ 62 → (changed row call).handles ≤ 2 ^ 62
within row (Add time) accepts le = le
within row Enlist accepts le = drawn row.handles (Number (row.handles + 1)) accepts le
within row Read accepts le = le

pub grows : (opening : TimesRow) → Grows times_kind changed (Holds opening) opening
grows opening calls call holds accepts =
    let e = changed_by opening calls call in
    (e, rw e (within (row_of opening calls) call accepts holds))

pub none : (opening : TimesRow) → Holds opening []
unfolding row_of count_of
none opening = lit≤ tt

-- a row that is changed as its answer says follows it
pub follows : (row : TimesRow) (call : TimesCall) (next : TimesRow × Reply TimesRow) → (row.handles ≤ 2 ^ 62 → next ≡ (after times_kind changed row call, answer_at times_kind row call)) → Follows times_kind row call next
unfolding fold_of
follows row call next e opening h caller answered is_fold =
    follows_from times_kind changed opening (Holds opening) (grows opening) (none opening) row call next h caller answered is_fold (λ holds. e (subst (λ (r : TimesRow). r.handles ≤ 2 ^ 62) is_fold holds))
