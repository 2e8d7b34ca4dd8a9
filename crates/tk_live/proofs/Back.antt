-- Wakers that come back into the hands of their tasks, from the last one to the first.
use Rattle.std.proofs.Common.{◌≡◌, ◌≢◌, ℕ, ◌+◌, ◌<◌, ◌≤◌, ◌⊎◌, ◌==◌, ◌||◌, Bool, true, false, cond, filter, not, List, [], ◌∷◌, ◌++◌, length, drop, Option, Some, None, refl, ap, sym, ◌∙◌, subst, arith, append_assoc, inl, inr, ⊎_elim, true≢false}
use Rattle.std.specs.Prelude.{map, if◌then◌else◌}
use Rattle.std.specs.List.{AllByRecursion}
use Rattle.std.specs.Option.{option_or}
use Rattle.std.proofs.lemmas.Bool.{cases_eq, eq-eqb}
use Rattle.std.proofs.lemmas.List.{drop_all, map-append}
use Rattle.std.proofs.lemmas.List.Elements.{filter-append}
use borrow.Author.Tests.{eqb-true}
use Rattle.tk_core.specs.declared.history.Entry.{Entry}
use Rattle.tk_core.specs.declared.reply.Reply.{Reply}
use Rattle.tk_core.specs.declared.task.call.TaskCall.{TaskCall}
use Rattle.tk_core.specs.declared.task.row.TaskRow.{TaskRow}
use Rattle.tk_core.specs.History.{calls_of}
use Rattle.tk_core.specs.TaskMeaning.{task_meaning}
use Rattle.tk_cell.specs.declared.view.View.{View}
use Rattle.tk_cell.specs.Views.{times, Holds}
use Rattle.tk_cell.specs.Ours.{Interleaves, of_held}
use Rattle.tk_cell.proofs.ListLemmas.{times-append, times_itself, times_other}
use Rattle.tk_cell.proofs.OursLemmas.{joins_interleave}
use Rattle.tk_ledgers.specs.Callers.{IsLive, TakesBack}
use Rattle.tk_ledgers.proofs.CallersLemmas.{taking_back_keeps_live}
use Rattle.tk_live.specs.Blocks.{is_named, spends, call_of, calls_by}
use Rattle.tk_live.specs.Handed.{KnownTask, TaskEntries, known_by, is_spent, IsQuiet, HasMade, MadeLines, RanBy, RanAt, RanAll, IsHandOf, IsLiveIn, TakesWakerBack, MayTakeBack, Share, its_lines, is_out, IsOut, IsLent, IsFrom, IsFromTask, IsGiven, HandedOut, ComesBack, AllComeBack, calls_for, IsBackFrom, TakenBack, AreOut}
use Rattle.tk_live.specs.Items.{EachFrom, AreWakers}
use Rattle.tk_live.specs.Named.{made_item, live_item}
use Rattle.tk_live.specs.Pasts.{AreBeside}
use Rattle.tk_live.specs.Threads.{LastsAreLast}
use Rattle.tk_live.specs.declared.handed.Handed.{Handed}
use Rattle.tk_live.specs.declared.items.TaskItem.{TaskItem}
use Rattle.tk_live.specs.declared.items.WakerItem.{WakerItem}
use Rattle.tk_script.specs.declared.block.WorkerLine.{WorkerLine}
use Rattle.tk_live.proofs.Handing.{below, hand_trans, lent_as, live_step, out_first, some_same, some_none}
use Rattle.tk_live.proofs.Places.{each_told}
use Rattle.tk_live.proofs.Seating.{drop_at_place, made_here, each_as, each_changed}

abbrev E : Type 0
E = Entry TaskCall (Reply TaskRow)

abbrev V : Type 0
V = View TaskRow TaskCall (Reply TaskRow)

-- ---- lists

of_same : (v w : V) (h : TaskEntries) → v.held ≡ w.held → of_held v h ≡ of_held w h
of_same v w h same = ap (λ (ns : List ℕ). filter (λ (e : E). not (times e.caller ns == 0)) h) same

of_more : (v : V) (a b : TaskEntries) → of_held v (a ++ b) ≡ of_held v a ++ of_held v b
of_more v a b = filter-append (λ (e : E). not (times e.caller v.held == 0)) a b

all_append : {A : Type 0} (P : A → Type 0) (xs ys : List A) → AllByRecursion P xs → AllByRecursion P ys → AllByRecursion P (xs ++ ys)
all_append P [] ys a b = b
all_append P (x ∷ xs) ys a b = (a.0, all_append P xs ys a.1 b)

-- what is interleaved of two lists
all_interleaved : {A : Type 0} (P : A → Type 0) (zs xs ys : List A) → Interleaves xs ys zs → AllByRecursion P xs → AllByRecursion P ys → AllByRecursion P zs
all_interleaved P [] xs ys i a b = tt
all_interleaved {A} P (z ∷ zs) xs ys i a b = ⊎_elim
    (λ (t : (rest : List A) × (xs ≡ z ∷ rest) × Interleaves rest ys zs). let c = subst (λ (l : List A). AllByRecursion P l) t.1 a in (c.0, all_interleaved P zs t.0 ys t.2 c.1 b))
    (λ (t : (rest : List A) × (ys ≡ z ∷ rest) × Interleaves xs rest zs). let c = subst (λ (l : List A). AllByRecursion P l) t.1 b in (c.0, all_interleaved P zs xs t.0 t.2 a c.1))
    i

interleaved_turned : {A B : Type 0} (f : A → B) (zs xs ys : List A) → Interleaves xs ys zs → Interleaves (map f ys) (map f xs) (map f zs)
interleaved_turned f [] xs ys i = (ap (map f) i.1, ap (map f) i.0)
interleaved_turned {A} {B} f (z ∷ zs) xs ys i = ⊎_elim
    (λ (t : (rest : List A) × (xs ≡ z ∷ rest) × Interleaves rest ys zs). inr (map f t.0, ap (map f) t.1, interleaved_turned f zs t.0 ys t.2))
    (λ (t : (rest : List A) × (ys ≡ z ∷ rest) × Interleaves xs rest zs). inl (map f t.0, ap (map f) t.1, interleaved_turned f zs xs t.0 t.2))
    i

pub none_beside : {A : Type 0} (zs : List A) → Interleaves [] zs zs
none_beside [] = (refl, refl)
none_beside (z ∷ zs) = inr (zs, refl, none_beside zs)

-- ---- a waker that ran its lines

-- a waker that no line names calls nothing
pub calls_none : (w : ℕ) (ls : List WorkerLine) → is_named w ls ≡ false → calls_by w ls ≡ []
calls_none w [] isnt = refl
calls_none w (l ∷ ls) isnt = go (l.waker == w) isnt (calls_none w ls)
  where
    go : (b : Bool) → (b || is_named w ls) ≡ false → (is_named w ls ≡ false → calls_by w ls ≡ [])
        → map (λ (k : WorkerLine). call_of k.call) (cond b (l ∷ filter (λ (k : WorkerLine). k.waker == w) ls) (filter (λ (k : WorkerLine). k.waker == w) ls)) ≡ []
    go true e rest = absurd (true≢false e)
    go false e rest = rest e

module _ (t : KnownTask) (k : ℕ) (ls : List WorkerLine) (w : ℕ) (x y : Handed) (from : IsFrom t k [] false (known_by x)) (ran : RanBy ls w x y) (lasts : LastsAreLast ls) (alive : is_spent x ≡ false) where
  did : MadeLines ls w x y
  did = ran.did lasts alive

  pub from_ran : IsFrom t k (calls_by w ls) (spends w ls) (known_by y)
  from_ran =
      let m : HasMade (known_by x) (calls_by w ls) (known_by y) = did.made in
      let xv = (known_by x).view in let yv = (known_by y).view in
      let all : of_held yv (from.more ++ m.more) ≡ of_held xv from.more ++ of_held xv m.more = of_same yv xv (from.more ++ m.more) m.held ∙ of_more xv from.more m.more in
      record {
        ledger = ran.stays.ledger ∙ from.ledger;
        wakers = ran.stays.wakers from.wakers;
        was_held = from.was_held;
        held = m.held ∙ from.held;
        caller = m.caller ∙ from.caller;
        more = from.more ++ m.more;
        seen = m.seen ∙ (ap (λ (h : TaskEntries). h ++ m.more) from.seen ∙ append_assoc t.view.seen from.more m.more);
        calls_are = ap (λ (h : TaskEntries). calls_of h) all
            ∙ (map-append (λ (e : E). e.call) (of_held xv from.more) (of_held xv m.more) ∙ (ap (λ (l : List TaskCall). l ++ calls_of (of_held xv m.more)) from.calls_are ∙ m.calls_are));
        quiet = subst (λ (h : TaskEntries). AllByRecursion IsQuiet h) (sym all) (all_append IsQuiet (of_held xv from.more) (of_held xv m.more) from.quiet m.quiet);
        live = λ stays. subst (λ (n : ℕ). IsLive task_meaning yv n) (m.caller ∙ from.caller)
            (did.live (subst (λ (n : ℕ). IsLive task_meaning xv n) (sym from.caller) (from.live refl)) stays);
      }

ran_there : (ls : List WorkerLine) (w : ℕ) (old new : Option Handed) (x : Handed) → old ≡ Some x → RanAt ls w old new → (y : Handed) × (new ≡ Some y) × RanBy ls w x y
ran_there ls w None new x is ran = absurd (some_none x (sym is))
ran_there ls w (Some z) None x is ran = absurd ran
ran_there ls w (Some z) (Some y) x is ran = (y, refl, subst (λ (h : Handed). RanBy ls w h y) (some_same is) ran)

ran_away : (ls : List WorkerLine) (w : ℕ) (old new : Option Handed) → old ≡ None → RanAt ls w old new → new ≡ None
ran_away ls w None None is ran = refl
ran_away ls w None (Some y) is ran = absurd ran
ran_away ls w (Some z) new is ran = absurd (some_none z is)

-- a waker that was handed to a thread comes back from it
comes : (share : Share) (before : List TaskItem) (w : ℕ) (a : WakerItem) (ls : List WorkerLine) (old new : Option Handed) → LastsAreLast ls → share w ≡ ls → IsGiven (is_named w ls) before a old → RanAt ls w old new → ComesBack share before w a new
comes share before w a ls old new lasts is given ran = ⊎_elim
    (λ (t : (is_named w ls ≡ true) × (handed : Handed) × (old ≡ Some handed) × (is_spent handed ≡ false) × IsFromTask before a [] false handed).
    let r = ran_there ls w old new t.1 t.2 ran in
    inl (
      ap (λ (l : List WorkerLine). is_named w l) is ∙ t.0,
      r.0,
      r.1,
      (
        t.4.0,
        t.4.1,
        subst (λ (l : List WorkerLine). IsFrom t.4.0.callers.token a.number (calls_by w l) (spends w l) (known_by r.0)) (sym is)
            (from_ran t.4.0.callers.token a.number ls w t.1 r.0 t.4.2 r.2 lasts t.3),
      ),
    ))
    (λ (t : (is_named w ls ≡ false) × (old ≡ None)). inr (ap (λ (l : List WorkerLine). is_named w l) is ∙ t.0, ran_away ls w old new t.1 ran))
    given

-- ---- all are out

module _ (first second : List WorkerLine) (wakers : List (Option WakerItem)) (before now : List TaskItem) (one two one' two' : List (Option Handed)) (aw : AreWakers before wakers)
    (out : HandedOut first second wakers before (length wakers) now one two) (ran_one : RanAll first one one') (ran_two : RanAll second two two') (lasts_one : LastsAreLast first) (lasts_two : LastsAreLast second) where
  abbrev shared : Share
  shared = its_lines first second

  pub all_out : TakenBack shared wakers before (length wakers) now
  all_out = record {
    tasks = each_as (λ n t u. IsLent (IsOut shared wakers (length wakers) n) [] t u) (IsBackFrom shared wakers (length wakers)) 1 before now (λ n t u l. ([], l, none_left n)) out.tasks;
    made = λ w a at. let l = aw.live w a at in (l.0, l.1);
    live = λ w a at stays. out.live w a at;
  }
    where
      none_left : (n : ℕ) → AreBeside (calls_for shared n (length wakers + 1) (drop (length wakers) wakers)) []
      none_left n = subst (λ (l : List (Option WakerItem)). AreBeside (calls_for shared n (length wakers + 1) l) []) (sym (drop_all (length wakers) wakers (omega arith))) refl

  pub all_come : AllComeBack shared wakers before (length wakers) one' two'
  all_come w a at le = go (is_named w first) refl
    where
      go : (b : Bool) → is_named w first ≡ b → ComesBack shared before w a (option_or (live_item w one') (live_item w two'))
      go true named =
          let is : shared w ≡ first = ap (λ (b : Bool). if b then first else second) named in
          let back = comes shared before w a first (live_item w one) (live_item w one') lasts_one is (out.ones w a at le) (ran_one w) in
          here back
        where
          here : ComesBack shared before w a (live_item w one') → ComesBack shared before w a (option_or (live_item w one') (live_item w two'))
          here back = ⊎_elim
              (λ (t : (is_out shared w ≡ true) × (handed : Handed) × (live_item w one' ≡ Some handed) × IsFromTask before a (calls_by w (shared w)) (spends w (shared w)) handed).
              inl (t.0, t.1, ap (λ (o : Option Handed). option_or o (live_item w two')) t.2, t.3))
              (λ (t : (is_out shared w ≡ false) × (live_item w one' ≡ None)). absurd (true≢false (sym (out_first first second w named) ∙ t.0)))
              back
      go false unnamed =
          let is : shared w ≡ second = ap (λ (b : Bool). if b then first else second) unnamed in
          let none : live_item w one' ≡ None = ran_away first w (live_item w one) (live_item w one') (gone (out.ones w a at le)) (ran_one w) in
          subst (λ (o : Option Handed). ComesBack shared before w a (option_or o (live_item w two'))) (sym none)
          (comes shared before w a second (live_item w two) (live_item w two') lasts_two is (out.twos w a at le unnamed) (ran_two w))
        where
          gone : IsGiven (is_named w first) before a (live_item w one) → live_item w one ≡ None
          gone given = ⊎_elim
              (λ (t : (is_named w first ≡ true) × (handed : Handed) × (live_item w one ≡ Some handed) × (is_spent handed ≡ false) × IsFromTask before a [] false handed). absurd (true≢false (sym t.0 ∙ unnamed)))
              (λ (t : (is_named w first ≡ false) × (live_item w one ≡ None)). t.1)
              given

  pub are_out : AreOut wakers now one' two'
  are_out = record { share = shared; before = before; back = all_out; come = all_come }

-- ---- one hand

module _ (Out Less : ℕ → Type 0) (t u new : TaskItem) (k : ℕ) (calls : List TaskCall) (spent : Bool) (other : KnownTask) (more : TaskEntries) (l : IsLent Out more t u) (from : IsFrom t.callers.token k calls spent other)
    (is : IsHandOf u new) (back : TakesBack task_meaning u.callers.token other new.callers.token) (less : (j : ℕ) → Out j → Less j ⊎ (j ≡ k)) where
  abbrev uv : V
  uv = u.callers.token.view

  abbrev nv : V
  nv = new.callers.token.view

  joined : (rest : TaskEntries) × (nv.seen ≡ t.callers.token.view.seen ++ rest) × Interleaves (of_held uv more) (of_held other.view from.more) (of_held nv rest)
  joined = joins_interleave task_meaning uv other.view nv back.joined t.callers.token.view.seen more from.more l.seen from.seen

  pub rest : TaskEntries
  rest = joined.0

  held_now : (j : ℕ) → times j nv.held ≡ times j uv.held + times j (k ∷ [])
  held_now j = ap (λ (ns : List ℕ). times j ns) (back.joined.now_held ∙ ap (λ (ns : List ℕ). uv.held ++ ns) from.held) ∙ times-append j uv.held (k ∷ [])

  still : (j : ℕ) → Holds uv j → Holds nv j
  still j h = let s = held_now j in omega (arith, s, h)

  itself : Holds nv k
  itself = let s = held_now k in let one = times_itself k in omega (arith, s, one)

  pub lent_back : IsLent Less rest t new
  unfolding rest
  lent_back = record {
    hand = hand_trans t u new l.hand is;
    opening = back.joined.same_opening ∙ l.opening;
    seen = joined.1;
    quiet = all_interleaved IsQuiet (of_held nv joined.0) (of_held uv more) (of_held other.view from.more) joined.2 l.quiet from.quiet;
    fewer = λ j h. ⊎_elim
        (λ (e : j ≡ k). subst (λ (n : ℕ). Holds t.callers.token.view n) (sym e) from.was_held)
        (λ (ne : j ≢ k). l.fewer j (let s = held_now j in let none = times_other k j (λ e. ne (sym e)) in omega (arith, s, none, h)))
        (cases_eq j k);
    rest = λ j h. ⊎_elim
        (λ (a : Holds uv j). inl (still j a))
        (λ (o : Out j). ⊎_elim (λ (x : Less j). inr x) (λ (e : j ≡ k). inl (subst (λ (n : ℕ). Holds nv n) (sym e) itself)) (less j o))
        (l.rest j h);
  }

  pub calls_back : Interleaves calls (calls_of (of_held uv more)) (calls_of (of_held nv rest))
  unfolding rest
  calls_back = subst (λ (cs : List TaskCall). Interleaves cs (calls_of (of_held uv more)) (calls_of (of_held nv joined.0))) from.calls_are
      (interleaved_turned (λ (e : E). e.call) (of_held nv joined.0) (of_held uv more) (of_held other.view from.more) joined.2)

-- ---- all wakers, one place on

module _ (share : Share) (wakers : List (Option WakerItem)) (before : List TaskItem) (i : ℕ) (now : List TaskItem) (one two : List (Option Handed)) (lt : i < length wakers)
    (was : TakenBack share wakers before (i + 1) now) (come : AllComeBack share wakers before (i + 1) one two) where
  abbrev Out : ℕ → ℕ → ℕ → Type 0
  Out m n j = IsOut share wakers m n j

  abbrev place : (o : Option WakerItem) × (drop i wakers ≡ o ∷ drop (i + 1) wakers) × (live_item (i + 1) wakers ≡ o)
  place = drop_at_place wakers i lt

  -- who is out, but for the next one
  out_less : (n j : ℕ) → ((a : WakerItem) → live_item (i + 1) wakers ≡ Some a → a.task ≡ n → is_out share (i + 1) ≡ true → ⊥) → Out (i + 1) n j → Out i n j
  out_less n j never o = ⊎_elim
      (λ (lo : o.0 ≤ i). (o.0, o.1, lo, o.3, o.4, o.5, o.6))
      (λ (e : o.0 ≡ i + 1). absurd (never o.1 (sym (ap (λ (w : ℕ). live_item w wakers) e) ∙ o.3) o.4 (subst (λ (w : ℕ). is_out share w ≡ true) e o.6)))
      (below o.0 i o.2)

  -- the calls of a task's wakers from the next one on, where it isn't out, or is another task's
  calls_on_next : (n : ℕ) (calls : List TaskCall) → ((a : WakerItem) → live_item (i + 1) wakers ≡ Some a → a.task ≡ n → is_out share (i + 1) ≡ false) → AreBeside (calls_for share n (i + 1 + 1) (drop (i + 1) wakers)) calls
      → AreBeside (calls_for share n (i + 1) (drop i wakers)) calls
  calls_on_next n calls never beside = subst (λ (l : List (Option WakerItem)). AreBeside (calls_for share n (i + 1) l) calls) (sym place.1) (go place.0 place.2)
    where
      go : (o : Option WakerItem) → live_item (i + 1) wakers ≡ o → AreBeside (calls_for share n (i + 1) (o ∷ drop (i + 1) wakers)) calls
      go None at = beside
      go (Some a) at = by_task (a.task == n) refl
        where
          by_task : (b : Bool) → (a.task == n) ≡ b → AreBeside (if b then calls_by (i + 1) (share (i + 1)) ∷ calls_for share n (i + 1 + 1) (drop (i + 1) wakers) else calls_for share n (i + 1 + 1) (drop (i + 1) wakers)) calls
          by_task false is = beside
          by_task true is = (calls, subst (λ (cs : List TaskCall). Interleaves cs calls calls) (sym (calls_none (i + 1) (share (i + 1)) (never a at (eqb-true a.task n is)))) (none_beside calls), beside)

  less_out : (n : ℕ) → ((a : WakerItem) → live_item (i + 1) wakers ≡ Some a → a.task ≡ n → is_out share (i + 1) ≡ false) → (t u : TaskItem) → IsBackFrom share wakers (i + 1) n t u → IsBackFrom share wakers i n t u
  less_out n never t u b = (
    b.0,
    lent_as (Out (i + 1) n) (Out i n) b.0 t u (λ j o. out_less n j (λ a at same is. true≢false (sym is ∙ never a at same)) o) b.1,
    calls_on_next n (calls_of (of_held u.callers.token.view b.0)) never b.2,
  )

  -- the next waker isn't out, or there is none
  pub back_next : ((a : WakerItem) → live_item (i + 1) wakers ≡ Some a → is_out share (i + 1) ≡ false) → TakenBack share wakers before i now
  back_next never = record {
    tasks = each_as (IsBackFrom share wakers (i + 1)) (IsBackFrom share wakers i) 1 before now (λ n t u b. less_out n (λ a at same. never a at) t u b) was.tasks;
    made = was.made;
    live = λ w a at stays. ⊎_elim
        (λ (t : (w ≤ i + 1) × (is_out share w ≡ true)). ⊎_elim
        (λ (lo : w ≤ i). inl (lo, t.1))
        (λ (e : w ≡ i + 1). absurd (true≢false (sym (subst (λ (n : ℕ). is_out share n ≡ true) e t.1) ∙ never a (sym (ap (λ (n : ℕ). live_item n wakers) e) ∙ at))))
        (below w i t.0))
        (λ (t : IsLiveIn now a). inr t)
        (was.live w a at stays);
  }

  pub come_next : AllComeBack share wakers before i one two
  come_next w a at le = come w a at (omega (arith, le))

  pub come_others : (one' two' : List (Option Handed)) → ((m : ℕ) → m ≢ i + 1 → (live_item m one' ≡ live_item m one) × (live_item m two' ≡ live_item m two)) → AllComeBack share wakers before i one' two'
  come_others one' two' others w b there le =
      let o = others w (λ e. let nope : ⊥ = omega (arith, e, le) in nope) in
      subst (λ (p : Option Handed). ComesBack share before w b (option_or p (live_item w two'))) (sym o.0)
      (subst (λ (p : Option Handed). ComesBack share before w b (option_or (live_item w one) p)) (sym o.1) (come w b there (omega (arith, le))))

  -- whether it comes back is told by what was taken of the lists
  pub none_comes : (a : WakerItem) → live_item (i + 1) wakers ≡ Some a → option_or (live_item (i + 1) one) (live_item (i + 1) two) ≡ None → is_out share (i + 1) ≡ false
  none_comes a at none = ⊎_elim
      (λ (t : (is_out share (i + 1) ≡ true) × (handed : Handed) × (option_or (live_item (i + 1) one) (live_item (i + 1) two) ≡ Some handed) × IsFromTask before a (calls_by (i + 1) (share (i + 1))) (spends (i + 1) (share (i + 1))) handed).
      absurd (some_none t.1 (sym t.2 ∙ none)))
      (λ (t : (is_out share (i + 1) ≡ false) × (option_or (live_item (i + 1) one) (live_item (i + 1) two) ≡ None)). t.0)
      (come (i + 1) a at (omega arith))

  module _ (a : WakerItem) (at : live_item (i + 1) wakers ≡ Some a) (handed : Handed) (taken : option_or (live_item (i + 1) one) (live_item (i + 1) two) ≡ Some handed) where
    comes_so : (is_out share (i + 1) ≡ true) × IsFromTask before a (calls_by (i + 1) (share (i + 1))) (spends (i + 1) (share (i + 1))) handed
    comes_so = ⊎_elim
        (λ (t : (is_out share (i + 1) ≡ true) × (came : Handed) × (option_or (live_item (i + 1) one) (live_item (i + 1) two) ≡ Some came) × IsFromTask before a (calls_by (i + 1) (share (i + 1))) (spends (i + 1) (share (i + 1))) came).
        (t.0, subst (λ (h : Handed). IsFromTask before a (calls_by (i + 1) (share (i + 1))) (spends (i + 1) (share (i + 1))) h) (some_same (sym t.2 ∙ taken)) t.3))
        (λ (t : (is_out share (i + 1) ≡ false) × (option_or (live_item (i + 1) one) (live_item (i + 1) two) ≡ None)). absurd (some_none handed (sym taken ∙ t.1)))
        (come (i + 1) a at (omega arith))

    -- it may be taken back
    pub may_come : MayTakeBack a now handed
    may_come =
        let from = comes_so.1 in
        let u = each_told (IsBackFrom share wakers (i + 1)) before now a.task from.0 was.tasks from.1 in
        (u.0, u.1, from.2.ledger ∙ sym u.2.1.hand.ledger, from.2.wakers)

    module _ (new : List TaskItem) (back : TakesWakerBack a now new handed) where
      out_or : (j : ℕ) → Out (i + 1) a.task j → Out i a.task j ⊎ (j ≡ a.number)
      out_or j o = ⊎_elim
          (λ (lo : o.0 ≤ i). inl (o.0, o.1, lo, o.3, o.4, o.5, o.6))
          (λ (e : o.0 ≡ i + 1). let same : o.1 ≡ a = some_same (sym o.3 ∙ (ap (λ (w : ℕ). live_item w wakers) e ∙ at)) in inr (sym o.5 ∙ ap (λ (x : WakerItem). x.number) same))
          (below o.0 i o.2)

      one_back : (t : TaskItem) → made_item a.task before ≡ Some t → IsBackFrom share wakers (i + 1) a.task t back.0 → IsBackFrom share wakers i a.task t back.1
      one_back t named b =
          let from = comes_so.1 in
          let same : from.0 ≡ t = some_same (sym from.1 ∙ named) in
          let cs = calls_by (i + 1) (share (i + 1)) in
          let f : IsFrom t.callers.token a.number cs (spends (i + 1) (share (i + 1))) (known_by handed) = subst (λ (x : TaskItem). IsFrom x.callers.token a.number cs (spends (i + 1) (share (i + 1))) (known_by handed)) same from.2 in
          let grown = rest (Out (i + 1) a.task) (Out i a.task) t back.0 back.1 a.number cs (spends (i + 1) (share (i + 1))) (known_by handed) b.0 b.1 f back.4 back.5 out_or in
          let lent = lent_back (Out (i + 1) a.task) (Out i a.task) t back.0 back.1 a.number cs (spends (i + 1) (share (i + 1))) (known_by handed) b.0 b.1 f back.4 back.5 out_or in
          let calls = calls_back (Out (i + 1) a.task) (Out i a.task) t back.0 back.1 a.number cs (spends (i + 1) (share (i + 1))) (known_by handed) b.0 b.1 f back.4 back.5 out_or in
          let now_calls = calls_of (of_held back.1.callers.token.view grown) in
          let before_calls = calls_of (of_held back.0.callers.token.view b.0) in
          let here : calls_for share a.task (i + 1) (drop i wakers) ≡ cs ∷ calls_for share a.task (i + 1 + 1) (drop (i + 1) wakers) =
          ap (λ (l : List (Option WakerItem)). calls_for share a.task (i + 1) l) (place.1 ∙ ap (λ (o : Option WakerItem). o ∷ drop (i + 1) wakers) (sym place.2 ∙ at))
          ∙ ap (λ (x : Bool). if x then cs ∷ calls_for share a.task (i + 1 + 1) (drop (i + 1) wakers) else calls_for share a.task (i + 1 + 1) (drop (i + 1) wakers)) (eq-eqb a.task a.task refl) in
          (grown, lent, subst (λ (lists : List (List TaskCall)). AreBeside lists now_calls) (sym here) (before_calls, calls, b.2))

      pub back_one : TakenBack share wakers before i new
      back_one = record {
        tasks = subst (λ (l : List TaskItem). EachFrom (IsBackFrom share wakers i) 1 before l) (sym back.3)
            (each_changed (IsBackFrom share wakers (i + 1)) (IsBackFrom share wakers i) before now a.task back.0 back.1 back.2
            (λ n t u ne b. less_out n (λ x there same. absurd (ne (sym same ∙ ap (λ (y : WakerItem). y.task) (some_same (sym there ∙ at))))) t u b)
            one_back was.tasks);
        made = was.made;
        live = λ w b there stays. ⊎_elim
            (λ (t : (w ≤ i + 1) × (is_out share w ≡ true)). ⊎_elim
            (λ (lo : w ≤ i). inl (lo, t.1))
            (λ (e : w ≡ i + 1). inr (itself_live w b e there stays))
            (below w i t.0))
            (λ (t : IsLiveIn now b). inr (live_step b a.task now new back.0 back.1 back.2 back.3
            (λ same live. taking_back_keeps_live task_meaning back.0.callers.token (known_by handed) back.1.callers.token b.number back.5 (inl live)) t))
            (was.live w b there stays);
      }
        where
          itself_live : (w : ℕ) (b : WakerItem) → w ≡ i + 1 → live_item w wakers ≡ Some b → spends w (share w) ≡ false → IsLiveIn new b
          itself_live w b e there stays =
              let same : a ≡ b = some_same (sym at ∙ (sym (ap (λ (n : ℕ). live_item n wakers) e) ∙ there)) in
              let goes : spends (i + 1) (share (i + 1)) ≡ false = subst (λ (n : ℕ). spends n (share n) ≡ false) e stays in
              subst (λ (x : WakerItem). IsLiveIn new x) same (
                back.1,
                ap (λ (l : List TaskItem). made_item a.task l) back.3 ∙ made_here a.task now back.0 back.1 back.2,
                taking_back_keeps_live task_meaning back.0.callers.token (known_by handed) back.1.callers.token a.number back.5 (inr (comes_so.1.2.live goes)),
              )
