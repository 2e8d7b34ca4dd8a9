-- What a driver may answer, one turn before another.
use Rattle.std.proofs.Common.{◌≡◌, ◌≢◌, ℕ, zero, suc, ◌+◌, ◌<◌, ◌≤◌, ◌⊎◌, Bool, true, false, not, cond, List, [], ◌∷◌, ◌++◌, length, drop, Option, Some, None, refl, ap, sym, ◌∙◌, subst, inl, inr, arith, append_assoc, append-nil}
use Rattle.std.specs.Prelude.{is_some, replicate, filter, slice_index_or}
use Rattle.std.specs.List.{slice_get, cons_option, remove}
use Rattle.std.proofs.lemmas.Bool.{cases_lt, cases_eq}
use Rattle.std.proofs.lemmas.Option.{slice_get_within}
use Rattle.futures.specs.declared.task.Poll.{Poll}
use Rattle.futures.specs.declared.task.Poll.TheVariants.{Ready, Pending}
use Rattle.tk_ledgers.specs.Scopes.{Scoped}
use Rattle.tk_exec.specs.Places.{value_at, values_at, AreKept}
use Rattle.futures.specs.Poll.{IfReady, OnPending}
use Rattle.tk_exec.specs.Seats.{Seat, Tasks, unfinished, outputs_of, output_or, LookedAt, PolledAt}
use Rattle.tk_exec.specs.Turns.{ComesBefore, PassedOver, TurnPolls, TurnDoes}
use Rattle.tk_exec.specs.Drives.{Driving, idle_after, EndsPolled, EndsIdle, IsOutput, Gives, GaveAll, Finishes, Stalls, RanGives, DriverGives, OneTurn}
use Rattle.tk_exec.specs.declared.driver.Ran.{Ran}
use Rattle.tk_exec.specs.declared.driver.Ran.TheVariants.{Finished, Stalled}
use Rattle.tk_exec.specs.declared.executor.Turn.{Turn}
use Rattle.tk_exec.specs.declared.executor.Turn.TheVariants as turns
use Rattle.tk_exec.proofs.PlaceLemmas.{taken_values, taken_kept}
use Rattle.tk_exec.proofs.TurnLemmas.{some_same}

one_more : (n : ℕ) → suc n ≡ n + 1
one_more n = omega arith

pub output_behind : {A : Type 0} (before rest whole : List A) (o : Option A) (x : A) → o ≡ Some x → before ++ cons_option o rest ≡ whole → (before ++ x ∷ []) ++ rest ≡ whole
output_behind {A} before rest whole o x is e = append_assoc before (x ∷ []) rest ∙ (ap (λ (p : Option A). before ++ cons_option p rest) (sym is) ∙ e)

pub no_output : {A : Type 0} (before rest whole : List A) (o : Option A) → o ≡ None → before ++ cons_option o rest ≡ whole → before ++ rest ≡ whole
no_output {A} before rest whole o is e = ap (λ (p : Option A). before ++ cons_option p rest) (sym is) ∙ e

module _ {W A : Type 0} where
  pub counted : (s : Seat W A) (seats : List (Seat W A)) → unfinished (s ∷ seats) ≡ cond (not (is_some s.out)) 1 0 + unfinished seats
  counted s seats = go (not (is_some s.out)) (filter (λ (seat : Seat W A). not (is_some seat.out)) seats)
    where
      go : (b : Bool) (rest : List (Seat W A)) → length (cond b (s ∷ rest) rest) ≡ cond b 1 0 + length rest
      go true rest = omega arith
      go false rest = omega arith

  from_place : (seats : List (Seat W A)) (place : ℕ) (s : Seat W A) → slice_get seats place ≡ Some s
      → unfinished (drop place seats) ≡ cond (not (is_some s.out)) 1 0 + unfinished (drop (suc place) seats)
  from_place [] place s e = absurd cc
  from_place (x ∷ seats) zero s e = ap (λ (t : Seat W A). unfinished (t ∷ seats)) (some_same x s e) ∙ counted s seats
  from_place (x ∷ seats) (suc place) s e = from_place seats place s e

  -- the tasks from a place on, of which the first is this one
  pub unfinished_from : (seats : List (Seat W A)) (place : ℕ) (s : Seat W A) → slice_get seats place ≡ Some s
      → unfinished (drop place seats) ≡ cond (not (is_some s.out)) 1 0 + unfinished (drop (place + 1) seats)
  unfinished_from seats place s e =
      from_place seats place s e ∙ ap (λ (n : ℕ). cond (not (is_some s.out)) 1 0 + unfinished (drop n seats)) (one_more place)

  pub none_from_end : (seats : List (Seat W A)) → unfinished (drop (length seats) seats) ≡ 0
  none_from_end [] = refl
  none_from_end (x ∷ seats) = none_from_end seats

  -- one task taken out of the slab, at the first key
  module _ (slots slots' : List (Option (Seat W A))) (k : ℕ) (keys : List ℕ) (are : AreKept slots (k ∷ keys)) (s : Seat W A) (was : value_at slots k ≡ Some s)
      (others : (other : ℕ) → other ≢ k → value_at slots' other ≡ value_at slots other) where
    abbrev positive : 0 < suc (length keys)
    positive = omega arith

    pub rest_are : AreKept slots' keys
    rest_are = taken_kept slots slots' (k ∷ keys) are 0 positive k refl others keys (λ i d low. absurd (omega arith)) (λ i d high. subst (λ (n : ℕ). slice_index_or keys i d ≡ slice_index_or (k ∷ keys) n d) (one_more i) refl) (omega arith)

    rest_values : values_at slots' keys ≡ values_at slots keys
    rest_values = taken_values slots slots' (k ∷ keys) are 0 positive k refl others
        ∙ ap (λ (o : Option (Seat W A)). remove (cons_option o (values_at slots keys)) 0) was

    pub head_values : values_at slots (k ∷ keys) ≡ s ∷ values_at slots' keys
    head_values = ap (λ (o : Option (Seat W A)). cons_option o (values_at slots keys)) was ∙ ap (λ (l : List (Seat W A)). s ∷ l) (sym rest_values)

    pub rest_outputs : outputs_of (values_at slots (k ∷ keys)) ≡ cons_option s.out (outputs_of (values_at slots' keys))
    rest_outputs = ap (λ (o : Option (Seat W A)). outputs_of (cons_option o (values_at slots keys))) was
        ∙ ap (λ (l : List (Seat W A)). cons_option s.out (outputs_of l)) (sym rest_values)

  -- all tasks are finished
  module _ (gives : W → A → Type 0) where
    finished_first : (s : Seat W A) (seats : List (Seat W A)) → unfinished (s ∷ seats) ≡ 0 → ((x : A) × (s.out ≡ Some x)) × (unfinished seats ≡ 0)
    finished_first s seats e = go s.out refl (sym (counted s seats) ∙ e)
      where
        go : (o : Option A) → s.out ≡ o → cond (not (is_some o)) 1 0 + unfinished seats ≡ 0 → ((x : A) × (s.out ≡ Some x)) × (unfinished seats ≡ 0)
        go None is e = absurd (omega (arith, e))
        go (Some x) is e = ((x, is), omega (arith, e))

    pub gave_first : (s : Seat W A) (x : A) → s.out ≡ Some x → Gives gives s x
    gave_first s x is = subst (λ (o : Option A). IsOutput o (gives s.task.work) x) (sym is) refl

    pub all_gave : (seats : List (Seat W A)) → unfinished seats ≡ 0 → GaveAll gives seats (outputs_of seats)
    all_gave [] e = record { as_many = refl; each = λ place seat x there is. absurd cc }
    all_gave (s ∷ seats) e =
        let first = finished_first s seats e in
        let rest = all_gave seats first.1 in
        let x = first.0.0 in
        let outputs : outputs_of (s ∷ seats) ≡ x ∷ outputs_of seats = ap (λ (o : Option A). cons_option o (outputs_of seats)) first.0.1 in
        subst (λ (l : List A). GaveAll gives (s ∷ seats) l) (sym outputs) (record { as_many = ap suc rest.as_many; each = λ place seat y there is. at x first.0.1 rest place seat y there is })
      where
        at : (x : A) → s.out ≡ Some x → GaveAll gives seats (outputs_of seats) → (place : ℕ) (seat : Seat W A) (y : A)
            → slice_get (s ∷ seats) place ≡ Some seat → slice_get (x ∷ outputs_of seats) place ≡ Some y → Gives gives seat y
        at x out rest zero seat y there is =
            let same : s ≡ seat = some_same s seat there in
            let value : x ≡ y = some_same x y is in
            subst (λ (t : Seat W A). Gives gives t y) same (gave_first s y (out ∙ ap (λ (z : A). Some z) value))
        at x out rest (suc place) seat y there is = rest.each place seat y there is

-- of two places one comes before the other
order : (begin i j : ℕ) → (i ≡ j) ⊎ (ComesBefore begin i j ⊎ ComesBefore begin j i)
order begin i j = go (cases_lt i begin) (cases_lt j begin) (cases_lt i j) (cases_eq i j)
  where
    go : ((i < begin) ⊎ (begin ≤ i)) → ((j < begin) ⊎ (begin ≤ j)) → ((i < j) ⊎ (j ≤ i)) → ((i ≡ j) ⊎ (i ≢ j)) → (i ≡ j) ⊎ (ComesBefore begin i j ⊎ ComesBefore begin j i)
    go a b c (inl same) = inl same
    go (inl a) (inl b) (inl c) (inr other) = inr (inl (inr (a, b, c)))
    go (inl a) (inl b) (inr c) (inr other) = inr (inr (inr (b, a, omega (arith, c, other))))
    go (inl a) (inr b) c (inr other) = inr (inr (inl (b, inl a)))
    go (inr a) (inl b) c (inr other) = inr (inl (inl (a, inl b)))
    go (inr a) (inr b) (inl c) (inr other) = inr (inl (inl (a, inr c)))
    go (inr a) (inr b) (inr c) (inr other) = inr (inr (inl (b, inr (omega (arith, c, other)))))

one_idle : (n : ℕ) (answers : List Turn) → replicate n turns.Idle ++ turns.Idle ∷ answers ≡ replicate (suc n) turns.Idle ++ answers
one_idle zero answers = refl
one_idle (suc n) answers = ap (λ (l : List Turn). turns.Idle ∷ l) (one_idle n answers)

-- one idle turn more stood before
idles_before : (n : ℕ) (answers : List Turn) → replicate n turns.Idle ++ turns.Idle ∷ answers ≡ replicate (n + 1) turns.Idle ++ answers
idles_before n answers = one_idle n answers ∙ ap (λ (m : ℕ). replicate m turns.Idle ++ answers) (one_more n)

behind_poll : (id : ℕ) (ready : Bool) (earlier : List Turn) → EndsPolled earlier → EndsPolled (turns.Polled id ready ∷ earlier)
behind_poll id ready [] p = tt
behind_poll id ready (answer ∷ earlier) p = p

-- what ends in a turn that polled a task also ends so after idle turns
behind_idle : (n : ℕ) (answer : Turn) (earlier : List Turn) → EndsPolled (answer ∷ earlier) → EndsPolled (replicate n turns.Idle ++ answer ∷ earlier)
behind_idle zero answer earlier p = p
behind_idle (suc zero) answer earlier p = p
behind_idle (suc (suc n)) answer earlier p = behind_idle (suc n) answer earlier p

module _ {W A C : Type 0} (reads : C → ℕ → C → Type 0) (polls : W → Scoped → Poll A → W → Scoped → Type 0) (gives : W → A → Type 0) where
  -- the task that stands at a place afterwards gives nothing that the one before didn't give
  abbrev NarrowsAt : Option (Seat W A) → Option (Seat W A) → Type 0
  NarrowsAt old new = (seat : Seat W A) → old ≡ Some seat → (left : Seat W A) × (new ≡ Some left) × ((x : A) → Gives gives left x → Gives gives seat x)

  looked_narrows : (old : Seat W A) (scheduled : Bool) (new : Seat W A) → LookedAt old scheduled new → (x : A) → Gives gives new x → Gives gives old x
  looked_narrows old scheduled new looked x gave =
      let work = subst (λ (w : W). IsOutput new.out (gives w) x) looked.0.work gave in
      subst (λ (o : Option A). IsOutput o (gives old.task.work) x) looked.1 work

  polled_narrows : (old new : Seat W A) (ready : Bool) (clock clock' : C) → PolledAt reads polls gives old ready new clock clock' → (x : A) → Gives gives new x → Gives gives old x
  polled_narrows old new ready clock clock' p x gave = subst (λ (o : Option A). IsOutput o (gives old.task.work) x) (sym p.unfinished) (by_answer p.answer p.out p.value p.same)
    where
      by_answer : (answer : Poll A) → new.out ≡ output_or answer old.out → IfReady answer (gives old.task.work) → OnPending answer ((y : A) → gives new.task.work y → gives old.task.work y) → gives old.task.work x
      by_answer (Ready y) out value same =
          let is : x ≡ y = subst (λ (o : Option A). IsOutput o (gives new.task.work) x) out gave in
          subst (λ (z : A). gives old.task.work z) (sym is) value
      by_answer Pending out value same = same x (subst (λ (o : Option A). IsOutput o (gives new.task.work) x) (out ∙ p.unfinished) gave)

  passed_narrows : (old new : Option (Seat W A)) → PassedOver old new → NarrowsAt old new
  passed_narrows old new p seat there =
      let same : p.before ≡ seat = some_same p.before seat (sym p.stood ∙ there) in
      (p.after, p.stands, λ (x : A) gave. subst (λ (t : Seat W A). Gives gives t x) same (looked_narrows p.before false p.after p.looked x gave))

  same_narrows : (old new : Option (Seat W A)) → new ≡ old → NarrowsAt old new
  same_narrows old new same seat there = (seat, same ∙ there, λ (x : A) gave. gave)

  module _ (old new : Tasks W A) (clock clock' : C) where
    polls_narrow : (id : ℕ) (ready : Bool) → TurnPolls reads polls gives old new id ready clock clock' → (place : ℕ) → NarrowsAt (slice_get old.seats place) (slice_get new.seats place)
    polls_narrow id ready t place seat there = go (order old.next place t.place) seat there
      where
        go : (place ≡ t.place) ⊎ (ComesBefore old.next place t.place ⊎ ComesBefore old.next t.place place) → NarrowsAt (slice_get old.seats place) (slice_get new.seats place)
        go (inl here) seat there =
            let same : t.before ≡ seat = some_same t.before seat (sym t.stood ∙ (ap (λ (n : ℕ). slice_get old.seats n) (sym here) ∙ there)) in (
              t.after,
              ap (λ (n : ℕ). slice_get new.seats n) here ∙ t.stands,
              λ (x : A) gave. subst (λ (s : Seat W A). Gives gives s x) same (looked_narrows t.before true t.read t.looked x (polled_narrows t.read t.after ready clock clock' t.polled x gave)),
            )
        go (inr (inl first)) seat there = passed_narrows _ _ (t.passed place (slice_get_within old.seats place seat there) first) seat there
        go (inr (inr later)) seat there = same_narrows _ _ (t.others place later) seat there

    turn_narrows : (answer : Turn) → TurnDoes reads polls gives old answer new clock clock' → (place : ℕ) → NarrowsAt (slice_get old.seats place) (slice_get new.seats place)
    turn_narrows (turns.Polled id ready) t place seat there = polls_narrow id ready t place seat there
    turn_narrows turns.Idle t place seat there = passed_narrows _ _ (t.passed place (slice_get_within old.seats place seat there)) seat there

    as_long : (answer : Turn) → TurnDoes reads polls gives old answer new clock clock' → length new.seats ≡ length old.seats
    as_long (turns.Polled id ready) t = t.as_long
    as_long turns.Idle t = t.as_long

    -- what is given for all tasks after a turn is given before it
    pub gave_before : (answer : Turn) → TurnDoes reads polls gives old answer new clock clock' → (outputs : List A) → GaveAll gives new.seats outputs → GaveAll gives old.seats outputs
    gave_before answer t outputs gave = record {
      as_many = gave.as_many ∙ as_long answer t;
      each = λ place seat x there is. let n = turn_narrows answer t place seat there in n.2 x (gave.each place n.0 x n.1 is);
    }

  -- no task is finished in an idle turn
  same_unfinished : (old new : List (Seat W A)) → length new ≡ length old → ((i : ℕ) → i < length old → PassedOver (slice_get old i) (slice_get new i)) → unfinished new ≡ unfinished old
  same_unfinished [] [] long passed = refl
  same_unfinished [] (y ∷ new) long passed = absurd cc
  same_unfinished (x ∷ old) [] long passed = absurd cc
  same_unfinished (x ∷ old) (y ∷ new) long passed =
      let p = passed zero (omega arith) in
      let out : y.out ≡ x.out = ap (λ (s : Seat W A). s.out) (some_same y p.after p.stands) ∙ (p.looked.1 ∙ ap (λ (s : Seat W A). s.out) (some_same p.before x (sym p.stood))) in
      let rest = same_unfinished old new (omega (arith, long)) (λ i less. passed (suc i) (omega arith)) in
      counted y new ∙ (ap (λ (o : Option A). cond (not (is_some o)) 1 0 + unfinished new) out ∙ (ap (λ (n : ℕ). cond (not (is_some x.out)) 1 0 + n) rest ∙ sym (counted x old)))

  module _ (old new : Tasks W A) (clock clock' : C) (idle max_idle n : ℕ) where
    -- a stall after this turn
    pub stalls : (answer : Turn) → TurnDoes reads polls gives old answer new clock clock' → idle < max_idle → max_idle ≤ idle_after idle answer → unfinished old.seats ≢ 0 → n ≡ unfinished new.seats → Stalls reads polls gives old clock idle max_idle n
    stalls (turns.Polled id ready) t less most some number = absurd (omega (arith, less, most))
    stalls turns.Idle t less most some number =
        let whole : max_idle ≡ idle + 1 = omega (arith, less, most) in
        let same = same_unfinished old.seats new.seats t.as_long t.passed in
        record {
          answers = turns.Idle ∷ [];
          left = new;
          clock' = clock';
          turned = (new, clock', t, (refl, refl));
          idles = record {
            earlier = [];
            polled = tt;
            ends = idles_before idle [] ∙ (append-nil (replicate (idle + 1) turns.Idle) ∙ ap (λ (m : ℕ). replicate m turns.Idle) (sym whole));
          };
          number = number;
          waits = omega (arith, number, same, some);
        }

    -- a stall later on
    pub stalls_later : (answer : Turn) → TurnDoes reads polls gives old answer new clock clock' → Stalls reads polls gives new clock' (idle_after idle answer) max_idle n → Stalls reads polls gives old clock idle max_idle n
    stalls_later answer t s = record {
      answers = answer ∷ s.answers;
      left = s.left;
      clock' = s.clock';
      turned = (new, clock', t, s.turned);
      idles = ends answer s.idles;
      number = s.number;
      waits = s.waits;
    }
      where
        ends : (answer : Turn) → EndsIdle (idle_after idle answer) s.answers max_idle → EndsIdle idle (answer ∷ s.answers) max_idle
        ends (turns.Polled id ready) e = record {
          earlier = replicate idle turns.Idle ++ turns.Polled id ready ∷ e.earlier;
          polled = behind_idle idle (turns.Polled id ready) e.earlier (behind_poll id ready e.earlier e.polled);
          ends = ap (λ (l : List Turn). replicate idle turns.Idle ++ turns.Polled id ready ∷ l) e.ends ∙ sym (append_assoc (replicate idle turns.Idle) (turns.Polled id ready ∷ e.earlier) (replicate max_idle turns.Idle));
        }
        ends turns.Idle e = record { earlier = e.earlier; polled = e.polled; ends = idles_before idle s.answers ∙ e.ends }

  -- all tasks are finished, and these are their outputs
  pub finishes : (tasks : Tasks W A) (clock : C) (outputs : List A) → unfinished tasks.seats ≡ 0 → outputs ≡ outputs_of tasks.seats → GaveAll gives tasks.seats outputs × Finishes reads polls gives tasks clock outputs
  finishes tasks clock outputs none given = (
    subst (λ (l : List A). GaveAll gives tasks.seats l) (sym given) (all_gave gives tasks.seats none),
    record { answers = []; left = tasks; clock' = clock; turned = (refl, refl); all = none; given = given },
  )

  -- they are finished later on
  finishes_later : (old new : Tasks W A) (clock clock' : C) (answer : Turn) (outputs : List A) → TurnDoes reads polls gives old answer new clock clock'
      → Finishes reads polls gives new clock' outputs → Finishes reads polls gives old clock outputs
  finishes_later old new clock clock' answer outputs t f = record {
    answers = answer ∷ f.answers;
    left = f.left;
    clock' = f.clock';
    turned = (new, clock', t, f.turned);
    all = f.all;
    given = f.given;
  }

  -- what the tasks of a driver may give
  pub driver_gives : (run : Option (Tasks W A)) (tasks : Tasks W A) (clock : C) (idle max_idle : ℕ) (driver : Driving W A C) (ran : Ran A)
      → record { tasks = run; clock = clock; idle = idle; max_idle = max_idle } ≡ driver → run ≡ Some tasks → RanGives reads polls gives (Some tasks) clock idle max_idle ran → DriverGives reads polls gives driver ran
  driver_gives run tasks clock idle max_idle driver ran view is gave =
      subst (λ (d : Driving W A C). DriverGives reads polls gives d ran) view (subst (λ (r : Option (Tasks W A)). RanGives reads polls gives r clock idle max_idle ran) (sym is) gave)

  -- a driver made one turn
  pub one_turn : (run : Option (Tasks W A)) (before after : Tasks W A) (answer : Turn) (clock clock' : C) (idle idle' max_idle : ℕ) (driver : Driving W A C)
      → record { tasks = run; clock = clock; idle = idle; max_idle = max_idle } ≡ driver → run ≡ Some before → unfinished before.seats ≢ 0 → TurnDoes reads polls gives before answer after clock clock' → idle' ≡ idle_after idle answer
      → OneTurn reads polls gives driver (record { tasks = Some after; clock = clock'; idle = idle'; max_idle = max_idle })
  one_turn run before after answer clock clock' idle idle' max_idle driver view is some turned rest =
      subst (λ (d : Driving W A C). OneTurn reads polls gives d (record { tasks = Some after; clock = clock'; idle = idle'; max_idle = max_idle })) view
      (record { before = before; after = after; answer = answer; stood = is; waits = omega (arith, some); stands = refl; turned = turned; idle = rest; most = refl })

  -- what is given after a turn is given before it
  pub given_before : (old new : Tasks W A) (clock clock' : C) (idle max_idle : ℕ) (answer : Turn) → TurnDoes reads polls gives old answer new clock clock'
      → (ran : Ran A) → RanGives reads polls gives (Some new) clock' (idle_after idle answer) max_idle ran → RanGives reads polls gives (Some old) clock idle max_idle ran
  given_before old new clock clock' idle max_idle answer t (Finished outputs) gave = (gave_before old new clock clock' answer t outputs gave.0, finishes_later old new clock clock' answer outputs t gave.1)
  given_before old new clock clock' idle max_idle answer t (Stalled n) s = stalls_later old new clock clock' idle max_idle n answer t s
