-- What a reading of a task's histogram shows of how long the task's polls ran.
use Rattle.std.proofs.Common.{◌≡◌, ◌≢◌, ℕ, zero, suc, ◌+◌, ◌-◌, ◌^◌, ◌<◌, ◌≤◌, nat_le, Bool, true, false, cond, if◌then◌else◌, List, [], ◌∷◌, ◌++◌, length, eqb, None, refl, ap, sym, ◌∙◌, subst, append_assoc, arith, ⊎_elim}
use Rattle.std.specs.Prelude.{◌==◌, All, map, filter, sum, take, unwrap_or}
use Rattle.std.specs.List.{filter_map}
use mathlib.Core.List.{IsPrefix}
use Rattle.std.proofs.lemmas.Bool.{eq-eqb, ne_eqb}
use Rattle.std.proofs.lemmas.List.{append-nil}
use Rattle.std.proofs.lemmas.List.Elements.{filter-append, filter_map-append, All-head, All-tail}
use Rattle.std.proofs.lemmas.List.Sums.{sum_by-cons}
use Rattle.std.proofs.Math.Seq.{take-append_seam}
use Rattle.tk_core.specs.declared.history.Entry.{Entry}
use Rattle.tk_core.specs.declared.reply.Reply.{Reply}
use Rattle.tk_core.specs.declared.reply.Reply.TheVariants.{Shown}
use Rattle.tk_core.specs.declared.times.row.TimesRow.{TimesRow}
use Rattle.tk_core.specs.declared.times.call.TimesCall.{TimesCall}
use Rattle.tk_core.specs.declared.times.call.TimesCall.TheVariants.{Add, Enlist, Read}
use Rattle.tk_core.specs.Lists.{capped, count_of, greatest, greatest_of}
use Rattle.tk_core.specs.History.{accepted}
use Rattle.tk_core.specs.Fold.{is_accepted, fold_of, row_after, reply_after}
use Rattle.tk_core.specs.Legal.{own}
use Rattle.tk_core.specs.Times.{bounds, reached, bucket_of, time_of, is_in, counts_from, longest_of, row_of, made_may}
use Rattle.tk_core.specs.TimesMeaning.{times_meaning}
use Rattle.tk_core.specs.Laws.Answered.{accepted_push}
use Rattle.tk_core.specs.Laws.TimesLaws.{legal_fold}
use Rattle.tk_cell.specs.declared.view.View.{View}
use Rattle.tk_cell.specs.Views.{times, Holds}
use Rattle.tk_cell.specs.Calls.{entry, Calls, Joins}
use Rattle.tk_cell.specs.Ours.{CallsBeside}
use Rattle.tk_cell.proofs.HistoryLemmas.{prefix_is_legal}
use Rattle.tk_cell.proofs.ListLemmas.{dec_eq}
use Rattle.tk_cell.proofs.RoleLemmas.{call_reply}
use Rattle.tk_ledgers.specs.Tasks.{owner_calls}
use Rattle.tk_ledgers.specs.Times.{added_times, runs_of, ShowsTimes, ShowsFirst, ShowsFirstPolls, ShowsAllPolls, ShowsFirstBefore}
use Rattle.tk_ledgers.proofs.BesideLemmas.{beside_is_call}
use Rattle.tk_ledgers.proofs.CallersLemmas.{same_own}
use Rattle.tk_ledgers.proofs.OwnerLemmas.{accepted_append, picked_of_owner}

abbrev Seen : Type 0
Seen = View TimesRow TimesCall (Reply TimesRow)

abbrev Log : Type 0
Log = List (Entry TimesCall (Reply TimesRow))

-- ---- the times that calls add say all of the row but its handles

abbrev times_in : List TimesCall → List ℕ
times_in calls = filter_map time_of calls

-- a call counts in a bucket as its time does, and one that adds none in no bucket
count_same : (k : ℕ) (calls : List TimesCall) → length (filter (is_in k) calls) ≡ length (filter (is_in k) (map Add (times_in calls)))
count_same k [] = refl
count_same k (Add time ∷ calls) = go (bucket_of time == k) (count_same k calls)
  where
    go : (b : Bool) → length (filter (is_in k) calls) ≡ length (filter (is_in k) (map Add (times_in calls))) → length (cond b (Add time ∷ filter (is_in k) calls) (filter (is_in k) calls)) ≡ length (cond b (Add time ∷ filter (is_in k) (map Add (times_in calls))) (filter (is_in k) (map Add (times_in calls))))
    go true same = ap (λ (n : ℕ). suc n) same
    go false same = same
count_same k (Enlist ∷ calls) = count_same k calls
count_same k (Read ∷ calls) = count_same k calls

counts_same : (k n : ℕ) (calls : List TimesCall) → counts_from k n calls ≡ counts_from k n (map Add (times_in calls))
unfolding counts_from count_of
counts_same k zero calls = refl
counts_same k (suc n) calls = let head : capped (length (filter (is_in k) calls)) ≡ capped (length (filter (is_in k) (map Add (times_in calls)))) = ap (λ (m : ℕ). capped m) (count_same k calls) in
    let tail = counts_same (k + 1) n calls in cc (head, tail)

times_again : (ts : List ℕ) → times_in (map Add ts) ≡ ts
times_again [] = refl
times_again (t ∷ ts) = ap (λ (l : List ℕ). t ∷ l) (times_again ts)

longest_same : (calls : List TimesCall) → longest_of calls ≡ longest_of (map Add (times_in calls))
unfolding greatest_of
longest_same calls = ap (λ (ts : List ℕ). unwrap_or (greatest ts) 0) (sym (times_again (times_in calls)))

-- ---- as many times as the counts add up to

-- how many times lie in so many buckets, from this one on
lying : ℕ → ℕ → List ℕ → ℕ
lying k zero ts = 0
lying k (suc n) ts = length (filter (is_in k) (map Add ts)) + lying (k + 1) n ts

hits : ℕ → ℕ → ℕ → ℕ
hits k zero bucket = 0
hits k (suc n) bucket = (if bucket == k then 1 else 0) + hits (k + 1) n bucket

hits_none : (k n bucket : ℕ) → bucket < k → hits k n bucket ≡ 0
unfolding hits
hits_none k zero bucket lt = refl
hits_none k (suc n) bucket lt =
    let isnt : eqb bucket k ≡ false = ne_eqb bucket k (λ (e : bucket ≡ k). omega (arith, e, lt)) in
    let rest = hits_none (k + 1) n bucket (omega (arith, lt)) in
    rw isnt (omega (arith, rest))

hits_once : (k n bucket : ℕ) → k ≤ bucket → bucket < k + n → hits k n bucket ≡ 1
unfolding hits
hits_once k zero bucket le lt = absurd (omega (arith, le, lt))
hits_once k (suc n) bucket le lt = ⊎_elim
    (λ (is : bucket ≡ k). let here : eqb bucket k ≡ true = eq-eqb bucket k is in let rest = hits_none (k + 1) n bucket (omega (arith, is)) in rw (here, rest) refl)
    (λ (isnt : bucket ≢ k). let there : eqb bucket k ≡ false = ne_eqb bucket k isnt in let rest = hits_once (k + 1) n bucket (omega (arith, le, isnt)) (omega (arith, lt)) in rw (there, rest) refl)
    (dec_eq bucket k)

lying_none : (k n : ℕ) → lying k n [] ≡ 0
unfolding lying
lying_none k zero = refl
lying_none k (suc n) = let rest = lying_none (k + 1) n in omega (arith, rest)

lying_more : (k n t : ℕ) (ts : List ℕ) → lying k n (t ∷ ts) ≡ hits k n (bucket_of t) + lying k n ts
unfolding lying hits
lying_more k zero t ts = refl
lying_more k (suc n) t ts =
    let rest = lying_more (k + 1) n t ts in
    let first = one (bucket_of t == k) in
    omega (arith, rest, first)
  where
    one : (b : Bool) → length (cond b (Add t ∷ filter (is_in k) (map Add ts)) (filter (is_in k) (map Add ts))) ≡ (if b then 1 else 0) + length (filter (is_in k) (map Add ts))
    one true = omega arith
    one false = omega arith

reached_few : (bs : List ℕ) (time : ℕ) → reached bs time ≤ length bs
reached_few [] time = omega arith
reached_few (b ∷ bs) time = let rest = reached_few bs time in let first = one (nat_le b time) in omega (arith, rest, first)
  where
    one : (c : Bool) → (if c then 1 else 0) ≤ 1
    one true = omega arith
    one false = omega arith

in_a_bucket : (time : ℕ) → bucket_of time < 0 + 14
in_a_bucket time = let few : bucket_of time ≤ 13 = reached_few bounds time in omega (arith, few)

all_lie : (ts : List ℕ) → lying 0 14 ts ≡ length ts
all_lie [] = lying_none 0 14
all_lie (t ∷ ts) = let more = lying_more 0 14 t ts in let once = hits_once 0 14 (bucket_of t) (omega arith) (in_a_bucket t) in let rest = all_lie ts in omega (arith, more, once, rest)

-- counts that have not stopped are those of the buckets
added_up : (k n : ℕ) (ts : List ℕ) → All (λ (m : ℕ). m < 2 ^ 64 - 1) (counts_from k n (map Add ts)) → sum (counts_from k n (map Add ts)) ≡ lying k n ts
unfolding counts_from count_of lying
added_up k zero ts all = refl
added_up k (suc n) ts all =
    let many = length (filter (is_in k) (map Add ts)) in
    let rest = counts_from (k + 1) n (map Add ts) in
    let head : capped many < 2 ^ 64 - 1 = All-head (λ (m : ℕ). m < 2 ^ 64 - 1) (capped many) rest all in
    let tail = added_up (k + 1) n ts (All-tail (λ (m : ℕ). m < 2 ^ 64 - 1) (capped many) rest all) in
    let whole : capped many ≡ many = omega (arith, head) in
    sum_by-cons (λ (m : ℕ). m) (capped many) rest ∙ (λ i. whole i + tail i)

-- ---- a reading

-- who isn't the owner adds no time
others_add_none : (made call : TimesCall) → made_may made call ≡ true → time_of call ≡ None
others_add_none (Add time) call may = absurd cc
others_add_none Enlist (Add time) may = absurd cc
others_add_none Enlist Enlist may = refl
others_add_none Enlist Read may = refl
others_add_none Read call may = absurd cc

module _ (v : Seen) (row : TimesRow) (w : Seen) (k : Calls times_meaning v Read (Shown row) w) where
  abbrev calls_before : List TimesCall
  calls_before = accepted is_accepted (v.seen ++ k.between)

  shown : row ≡ row_of k.opening calls_before
  unfolding reply_after row_after fold_of
  shown =
      let is = call_reply times_meaning v Read (Shown row) w k in
      let folded = legal_fold k.opening (v.seen ++ k.between) (prefix_is_legal times_meaning k.opening (v.seen ++ k.between) w.seen (entry v.caller Read (Shown row) ∷ [], sym k.grows) k.legal) in
      cc (is) ∙ sym folded

  -- the times that were added before the reading stand in the owner's list
  before : times_in calls_before ≡ times_in (accepted is_accepted (own 0 w.seen))
  before =
      sym (ap (λ (h : Log). times_in (accepted is_accepted h)) k.grows
      ∙ (ap (λ (cs : List TimesCall). times_in cs) (accepted_push is_accepted (v.seen ++ k.between) (entry v.caller Read (Shown row)))
      ∙ (filter_map-append time_of calls_before (Read ∷ []) ∙ append-nil (times_in calls_before))))
      ∙ picked_of_owner times_meaning time_of others_add_none k.opening w.seen k.legal

  pub shows : ShowsTimes row (times_in (accepted is_accepted (own 0 w.seen)))
  unfolding row_of
  shows = (
    ap (λ (r : TimesRow). r.longest) shown ∙ (longest_same calls_before ∙ ap (λ (ts : List ℕ). longest_of (map Add ts)) before),
    ap (λ (r : TimesRow). r.counts) shown ∙ (counts_same 0 14 calls_before ∙ ap (λ (ts : List ℕ). counts_from 0 14 (map Add ts)) before),
  )

-- a reading beside the owner leaves the owner's list, and shows its times
module _ (v q w u : Seen) (row : TimesRow) (caller : v.caller ≡ 0) (k : CallsBeside times_meaning v q Read (Shown row) w u) where
  pub list_stays : own 0 w.seen ≡ own 0 v.seen
  list_stays = same_own times_meaning v q w u Read (Shown row) k 0 (subst (λ (n : ℕ). Holds v n) caller k.before.holds_itself)

  pub added_stay : times_in (accepted is_accepted (own 0 w.seen)) ≡ times_in (accepted is_accepted (own 0 v.seen))
  added_stay = ap (λ (h : Log). times_in (accepted is_accepted h)) list_stays

  pub shows_added : ShowsTimes row (times_in (accepted is_accepted (own 0 v.seen)))
  shows_added = subst (λ (h : Log). ShowsTimes row (times_in (accepted is_accepted h)))
      (ap (λ (x : Seen). own 0 x.seen) k.again.second_is ∙ list_stays)
      (shows q row u (beside_is_call times_meaning v q w u Read (Shown row) k))

counted : (row : TimesRow) (ts : List ℕ) → ShowsTimes row ts → All (λ (n : ℕ). n < 2 ^ 64 - 1) row.counts → sum row.counts ≡ length ts
counted row ts shows all = ap (λ (l : List ℕ). sum l) shows.1 ∙ (added_up 0 14 ts (subst (λ (l : List ℕ). All (λ (n : ℕ). n < 2 ^ 64 - 1) l) shows.1 all) ∙ all_lie ts)

-- a row that shows the beginning of some times
shows_beginning : (row : TimesRow) (ts more all : List ℕ) → ShowsTimes row ts → all ≡ ts ++ more → ShowsFirst row all
shows_beginning row ts more all shows is = record {
  many = length ts;
  shows = subst (λ (l : List ℕ). ShowsTimes row l) (sym (ap (λ (l : List ℕ). take (length ts) l) is ∙ take-append_seam ts more)) shows;
  counted = counted row ts shows;
}

pub first_polls : ShowsFirstPolls
first_polls h t v w row timed is k begins =
    let mine = own 0 w.seen in
    let whole : added_times t ≡ times_in (accepted is_accepted mine) ++ times_in (accepted is_accepted begins.0) = ap (λ (l : Log). times_in (accepted is_accepted l)) (sym begins.1)
    ∙ (ap (λ (cs : List TimesCall). times_in cs) (accepted_append mine begins.0) ∙ filter_map-append time_of (accepted is_accepted mine) (accepted is_accepted begins.0)) in
    shows_beginning row (times_in (accepted is_accepted mine)) (times_in (accepted is_accepted begins.0)) (runs_of (owner_calls h)) (shows v row w k) (sym (timed t is).runs ∙ whole)

-- where the owner's token was taken in, its list is the one that is known
own_is_learnt : (v other u : Seen) → other.caller ≡ 0 → Joins times_meaning v other u → own 0 u.seen ≡ own 0 other.seen
own_is_learnt v other u caller j = j.second 0 (subst (λ (n : ℕ). Holds other n) caller j.other_holds_itself)

times_append : (n : ℕ) (xs ys : List ℕ) → times n (xs ++ ys) ≡ times n xs + times n ys
times_append n [] ys = omega arith
times_append n (x ∷ xs) ys = let rest = times_append n xs ys in omega (arith, rest)

-- who learns the owner's token is somebody else, and holds its number from then on
reader_is_another : (v other u : Seen) → other.caller ≡ 0 → Joins times_meaning v other u → (0 ≢ u.caller) × Holds u 0
reader_is_another v other u caller j =
    let theirs : 0 < times 0 other.held = subst (λ (n : ℕ). Holds other n) caller j.other_holds_itself in
    let both : times 0 u.held ≡ times 0 v.held + times 0 other.held = ap (λ (l : List ℕ). times 0 l) j.now_held ∙ times_append 0 v.held other.held in
    let once : times 0 u.held ≤ 1 = j.still_distinct 0 in (
      λ (e : 0 ≡ u.caller).
          let own_number : 0 < times 0 v.held = subst (λ (n : ℕ). 0 < times n v.held) (sym (e ∙ j.same_caller)) j.holds_itself in
          omega (arith, theirs, both, once, own_number),
      omega (arith, theirs, both),
    )

pub all_polls : ShowsAllPolls
all_polls h t v u w row timed is j k =
    let caller = (timed t is).caller in
    let another = reader_is_another v t.view u caller j in
    let same : own 0 w.seen ≡ own 0 t.view.seen = k.others 0 another.1 another.0 ∙ own_is_learnt v t.view u caller j in
    subst (λ (ts : List ℕ). ShowsTimes row ts) (ap (λ (l : Log). times_in (accepted is_accepted l)) same ∙ (timed t is).runs) (shows u row w k)

own_prefix : (n : ℕ) (xs ys : Log) → IsPrefix xs ys → IsPrefix (own n xs) (own n ys)
own_prefix n xs ys p = (own n p.0, sym (filter-append (λ (e : Entry TimesCall (Reply TimesRow)). e.caller == n) xs p.0) ∙ ap (λ (l : Log). own n l) p.1)

-- what was seen before is the beginning of what is known after
longer : (x other u : Seen) → Joins times_meaning x other u → IsPrefix x.seen u.seen
longer x other u j = ⊎_elim
    (λ (t : IsPrefix x.seen other.seen × (u.seen ≡ other.seen)). subst (λ (l : Log). IsPrefix x.seen l) (sym t.1) t.0)
    (λ (t : IsPrefix other.seen x.seen × (u.seen ≡ x.seen)). ([], append-nil x.seen ∙ sym t.1))
    j.longer

pub first_before : ShowsFirstBefore
first_before h t v w x u row timed is k later j =
    let on : IsPrefix w.seen u.seen = let b = longer x t.view u j in (later.0 ++ b.0, sym (append_assoc w.seen later.0 b.0) ∙ (ap (λ (l : Log). l ++ b.0) later.1 ∙ b.1)) in
    first_polls h t v w row timed is k (subst (λ (l : Log). IsPrefix (own 0 w.seen) l) (own_is_learnt x t.view u (timed t is).caller j) (own_prefix 0 w.seen u.seen on))
