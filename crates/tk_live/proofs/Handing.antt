-- Wakers that are handed out, one after the other.
use Rattle.std.proofs.Common.{◌≡◌, ◌≢◌, ℕ, zero, suc, ◌+◌, ◌-◌, ◌<◌, ◌≤◌, ◌⊎◌, Bool, true, false, List, [], ◌∷◌, length, Option, Some, None, refl, ap, sym, ◌∙◌, subst, arith, inl, inr, ⊎_elim, true≢false}
use Rattle.std.specs.Prelude.{replicate, if◌then◌else◌}
use Rattle.std.proofs.lemmas.Bool.{cases_eq}
use Rattle.std.proofs.lemmas.List.{append-nil, length-replicate}
use Rattle.tk_core.specs.declared.task.call.TaskCall.TheVariants.{CloneWaker}
use Rattle.tk_core.specs.TaskMeaning.{task_meaning}
use Rattle.tk_cell.specs.Views.{times, without, Holds}
use Rattle.tk_cell.proofs.ListLemmas.{without_other}
use Rattle.tk_ledgers.specs.Callers.{IsLive, HandsOut, HoldsOnly}
use Rattle.tk_ledgers.proofs.CallersLemmas.{live_is, times_filter, handing_out_keeps_live}
use Rattle.tk_live.specs.Blocks.{is_named}
use Rattle.tk_live.specs.Handed.{KnownTask, TaskEntries, known_by, is_spent, IsHandOf, IsLiveIn, PartsWaker, Share, its_lines, is_out, IsOut, IsLent, IsFrom, IsFromTask, IsGiven, HandedOut}
use Rattle.tk_live.specs.Items.{EachFrom, AreWakers}
use Rattle.tk_live.specs.Named.{made_item, live_item, with_item}
use Rattle.tk_live.specs.declared.handed.Handed.{Handed}
use Rattle.tk_live.specs.declared.items.TaskItem.{TaskItem}
use Rattle.tk_live.specs.declared.items.WakerItem.{WakerItem}
use Rattle.tk_script.specs.declared.block.WorkerLine.{WorkerLine}
use Rattle.tk_live.proofs.Places.{each_made, length-set}
use Rattle.tk_live.proofs.Seating.{put_here, put_elsewhere, live_within, made_here, made_elsewhere, each_as, each_changed, none_of_none}

pub some_same : {X : Type 0} {x y : X} → Some x ≡ Some y → x ≡ y
some_same e = cc

pub some_none : {X : Type 0} (x : X) → Some x ≡ None → ⊥
some_none x e = cc

-- a number up to the next one is up to this one, or the next
pub below : (w i : ℕ) → w ≤ i + 1 → (w ≤ i) ⊎ (w ≡ i + 1)
below zero i le = inl (omega arith)
below (suc w) zero le = inr (omega (arith, le))
below (suc w) (suc i) le = ⊎_elim (λ (t : w ≤ i). inl (omega (arith, t))) (λ (t : w ≡ i + 1). inr (omega (arith, t))) (below w i (omega (arith, le)))

-- ---- one hand

pub hand_same : (t : TaskItem) → IsHandOf t t
hand_same t = record { id = refl; ledger = refl; closed = refl; times = refl; started = refl }

pub hand_trans : (t u v : TaskItem) → IsHandOf t u → IsHandOf u v → IsHandOf t v
hand_trans t u v p q = record { id = q.id ∙ p.id; ledger = q.ledger ∙ p.ledger; closed = q.closed ∙ p.closed; times = q.times ∙ p.times; started = q.started ∙ p.started }

lent_none : (Out : ℕ → Type 0) (t : TaskItem) → IsLent Out [] t t
lent_none Out t = record { hand = hand_same t; opening = refl; seen = sym (append-nil t.callers.token.view.seen); quiet = tt; fewer = λ j h. h; rest = λ j h. inl h }

-- more of its callers may be out
pub lent_as : (Out More : ℕ → Type 0) (more : TaskEntries) (t u : TaskItem) → ((j : ℕ) → Out j → More j) → IsLent Out more t u → IsLent More more t u
lent_as Out More more t u onto l = record {
  hand = l.hand;
  opening = l.opening;
  seen = l.seen;
  quiet = l.quiet;
  fewer = l.fewer;
  rest = λ j h. ⊎_elim (λ (a : Holds u.callers.token.view j). inl a) (λ (o : Out j). inr (onto j o)) (l.rest j h);
}

module _ (Out More : ℕ → Type 0) (t u new : TaskItem) (k : ℕ) (made : KnownTask) (l : IsLent Out [] t u) (is : IsHandOf u new) (out : HandsOut task_meaning u.callers.token k new.callers.token made)
    (onto : (j : ℕ) → Out j → More j) (here : More k) where
  same_held : new.callers.token.view.held ≡ without k u.callers.token.view.held
  same_held = ap (λ (x : KnownTask). x.view.held) out.kept

  pub parted : IsLent More [] t new
  parted = record {
    hand = hand_trans t u new l.hand is;
    opening = ap (λ (x : KnownTask). x.view.opening) out.kept ∙ l.opening;
    seen = ap (λ (x : KnownTask). x.view.seen) out.kept ∙ l.seen;
    quiet = tt;
    fewer = λ j h. l.fewer j (times_filter _ j u.callers.token.view.held (subst (λ (ns : List ℕ). 0 < times j ns) same_held h)).1;
    rest = λ j h. ⊎_elim (λ (a : Holds u.callers.token.view j). there j a) (λ (o : Out j). inr (onto j o)) (l.rest j h);
  }
    where
      there : (j : ℕ) → Holds u.callers.token.view j → Holds new.callers.token.view j ⊎ More j
      there j a = ⊎_elim
          (λ (e : j ≡ k). inr (subst More (sym e) here))
          (λ (ne : j ≢ k). inl (let same = without_other k j u.callers.token.view.held (λ s. ne (sym s)) in subst (λ (ns : List ℕ). 0 < times j ns) (sym same_held) (omega (arith, same, a))))
          (cases_eq j k)

  pub given : HoldsOnly task_meaning CloneWaker made.view → IsFrom t.callers.token k [] false made
  given only = record {
    ledger = ap (λ (x : KnownTask). x.ledger) out.given ∙ l.hand.ledger;
    wakers = only;
    was_held = l.fewer k (live_is task_meaning u.callers.token.view k out.was_live).2;
    held = ap (λ (x : KnownTask). x.view.held) out.given;
    caller = ap (λ (x : KnownTask). x.view.caller) out.given;
    more = [];
    seen = ap (λ (x : KnownTask). x.view.seen) out.given ∙ l.seen;
    calls_are = refl;
    quiet = tt;
    live = λ e. (handing_out_keeps_live task_meaning u.callers.token new.callers.token made k out).1;
  }

-- ---- live callers of a list of tasks of which one changed

pub live_step : (a : WakerItem) (n : ℕ) (old new : List TaskItem) (u v : TaskItem) → made_item n old ≡ Some u → new ≡ with_item n v old
    → (a.task ≡ n → IsLive task_meaning u.callers.token.view a.number → IsLive task_meaning v.callers.token.view a.number) → IsLiveIn old a → IsLiveIn new a
live_step a n old new u v named came stays live = ⊎_elim
    (λ (e : a.task ≡ n).
    let same : live.0 ≡ u = some_same (sym live.1 ∙ (ap (λ (m : ℕ). made_item m old) e ∙ named)) in
    (v, ap (λ (l : List TaskItem). made_item a.task l) came ∙ (ap (λ (m : ℕ). made_item m (with_item n v old)) e ∙ made_here n old u v named), stays e (subst (λ (x : TaskItem). IsLive task_meaning x.callers.token.view a.number) same live.2)))
    (λ (ne : a.task ≢ n). (live.0, ap (λ (l : List TaskItem). made_item a.task l) came ∙ made_elsewhere a.task n old u v live.0 ne named live.1, live.2))
    (cases_eq a.task n)

-- ---- all wakers

module _ (first second : List WorkerLine) (wakers : List (Option WakerItem)) (before : List TaskItem) (aw : AreWakers before wakers) where
  abbrev share : Share
  share = its_lines first second

  abbrev Out : ℕ → ℕ → ℕ → Type 0
  Out i n j = IsOut share wakers i n j

  abbrev Lent : ℕ → ℕ → TaskItem → TaskItem → Type 0
  Lent i n t u = IsLent (Out i n) [] t u

  -- nothing is handed out yet
  pub handed_none : (one two : List (Option Handed)) → one ≡ replicate (length wakers) None → two ≡ replicate (length wakers) None → HandedOut first second wakers before 0 before one two
  handed_none one two is_one is_two = record {
    tasks = each_none 1 before;
    live = λ w a at. inr (aw.live w a at);
    ones = λ w a at le. absurd (too_low w a at le);
    twos = λ w a at le no. absurd (too_low w a at le);
    one_rest = λ w lt. ap (live_item w) is_one ∙ none_of_none (length wakers) w;
    two_rest = λ w lt. ap (live_item w) is_two ∙ none_of_none (length wakers) w;
    one_long = ap length is_one ∙ length-replicate (length wakers) None;
    two_long = ap length is_two ∙ length-replicate (length wakers) None;
  }
    where
      each_none : (n : ℕ) (ts : List TaskItem) → EachFrom (Lent 0) n ts ts
      each_none n [] = tt
      each_none n (t ∷ ts) = (lent_none (Out 0 n) t, each_none (n + 1) ts)

      too_low : (w : ℕ) (a : WakerItem) → live_item w wakers ≡ Some a → w ≤ 0 → ⊥
      too_low w a at le = let low = (live_within w wakers a at).0 in omega (arith, low, le)

  module _ (i : ℕ) (now : List TaskItem) (one two : List (Option Handed)) (was : HandedOut first second wakers before i now one two) where
    out_more : (n j : ℕ) → Out i n j → Out (i + 1) n j
    out_more n j o = (o.0, o.1, let le = o.2 in omega (arith, le), o.3, o.4, o.5, o.6)

    -- the next waker stays, or there is none
    pub handed_next : ((a : WakerItem) → live_item (i + 1) wakers ≡ Some a → (is_named (i + 1) first ≡ false) × (is_named (i + 1) second ≡ false)) → HandedOut first second wakers before (i + 1) now one two
    handed_next unnamed = record {
      tasks = each_as (Lent i) (Lent (i + 1)) 1 before now (λ k t u l. lent_as (Out i k) (Out (i + 1) k) [] t u (out_more k) l) was.tasks;
      live = λ w a at. ⊎_elim (λ (t : (w ≤ i) × (is_out share w ≡ true)). let le = t.0 in inl (omega (arith, le), t.1)) (λ (t : IsLiveIn now a). inr t) (was.live w a at);
      ones = λ w a at le. ⊎_elim
          (λ (lo : w ≤ i). was.ones w a at lo)
          (λ (e : w ≡ i + 1). inr (subst (λ (n : ℕ). is_named n first ≡ false) (sym e) (unnamed a (sym (ap (λ (n : ℕ). live_item n wakers) e) ∙ at)).0, was.one_rest w (omega (arith, e))))
          (below w i le);
      twos = λ w a at le no. ⊎_elim
          (λ (lo : w ≤ i). was.twos w a at lo no)
          (λ (e : w ≡ i + 1). inr (subst (λ (n : ℕ). is_named n second ≡ false) (sym e) (unnamed a (sym (ap (λ (n : ℕ). live_item n wakers) e) ∙ at)).1, was.two_rest w (omega (arith, e))))
          (below w i le);
      one_rest = λ w lt. was.one_rest w (omega (arith, lt));
      two_rest = λ w lt. was.two_rest w (omega (arith, lt));
      one_long = was.one_long;
      two_long = was.two_long;
    }

    -- the next waker is handed out
    module _ (a : WakerItem) (at : live_item (i + 1) wakers ≡ Some a) (new : List TaskItem) (handed : Handed) (parts : PartsWaker a now new handed) (out : is_out share (i + 1) ≡ true) where
      abbrev old_item : TaskItem
      old_item = parts.3.0

      abbrev new_item : TaskItem
      new_item = parts.3.1

      out_here : Out (i + 1) a.task a.number
      out_here = (i + 1, a, omega arith, at, refl, refl, out)

      now_lent : EachFrom (Lent (i + 1)) 1 before new
      now_lent = subst (λ (l : List TaskItem). EachFrom (Lent (i + 1)) 1 before l) (sym parts.3.3)
          (each_changed (Lent i) (Lent (i + 1)) before now a.task old_item new_item parts.3.2
          (λ k t u ne l. lent_as (Out i k) (Out (i + 1) k) [] t u (out_more k) l)
          (λ t named l. parted (Out i a.task) (Out (i + 1) a.task) t old_item new_item a.number parts.0.token l parts.3.4 parts.3.5 (out_more a.task) out_here)
          was.tasks)

      now_live : (w : ℕ) (b : WakerItem) → live_item w wakers ≡ Some b → ((w ≤ i + 1) × (is_out share w ≡ true)) ⊎ IsLiveIn new b
      now_live w b there = ⊎_elim
          (λ (e : w ≡ i + 1). inl (omega (arith, e), subst (λ (n : ℕ). is_out share n ≡ true) (sym e) out))
          (λ (ne : w ≢ i + 1). ⊎_elim
          (λ (t : (w ≤ i) × (is_out share w ≡ true)). let le = t.0 in inl (omega (arith, le), t.1))
          (λ (t : IsLiveIn now b). inr (live_step b a.task now new old_item new_item parts.3.2 parts.3.3
          (λ same live. (handing_out_keeps_live task_meaning old_item.callers.token new_item.callers.token parts.0.token a.number parts.3.5).0 b.number (λ number. ne (aw.apart w (i + 1) b a there at same number)) live) t))
          (was.live w b there))
          (cases_eq w (i + 1))

      from_task : IsFromTask before a [] false handed
      from_task =
          let back = each_made (Lent i) before now a.task old_item was.tasks parts.3.2 in
          let from : IsFrom back.0.callers.token a.number [] false parts.0.token =
          given (Out i a.task) (Out (i + 1) a.task) back.0 old_item new_item a.number parts.0.token back.2 parts.3.4 parts.3.5 (out_more a.task) out_here parts.2 in
          (back.0, back.1, subst (λ (h : Handed). IsFrom back.0.callers.token a.number [] false (known_by h)) (sym parts.1) from)

      not_spent : is_spent handed ≡ false
      not_spent = ap is_spent parts.1

      -- the waker at the next number is this one
      same_waker : (w : ℕ) (b : WakerItem) → w ≡ i + 1 → live_item w wakers ≡ Some b → a ≡ b
      same_waker w b e there = some_same (sym at ∙ (sym (ap (λ (n : ℕ). live_item n wakers) e) ∙ there))

      put : (seats came : List (Option Handed)) → length seats ≡ length wakers → came ≡ with_item (i + 1) (Some handed) seats
          → ((w : ℕ) → w ≡ i + 1 → live_item w came ≡ Some handed) × ((w : ℕ) → (w ≡ i + 1 → ⊥) → live_item w came ≡ live_item w seats) × (length came ≡ length wakers)
      put seats came long is =
          let w0 = live_within (i + 1) wakers a at in (
            λ w e. ap (λ (n : ℕ). live_item n came) e ∙ (ap (live_item (i + 1)) is ∙ put_here (i + 1) seats (Some handed) w0.0 (let lt = w0.1 in omega (arith, lt, long))),
            λ w ne. ap (live_item w) is ∙ put_elsewhere w (i + 1) seats (Some handed) ne w0.0,
            ap length is ∙ (length-set seats (i + 1 - 1) (Some handed) ∙ long),
          )

      there_now : (named : Bool) (w : ℕ) (b : WakerItem) (came : List (Option Handed)) → w ≡ i + 1 → live_item w wakers ≡ Some b → named ≡ true → live_item w came ≡ Some handed → IsGiven named before b (live_item w came)
      there_now named w b came e there is stands = inl (is, handed, stands, not_spent, subst (λ (x : WakerItem). IsFromTask before x [] false handed) (same_waker w b e there) from_task)

      pub handed_first : (came : List (Option Handed)) → is_named (i + 1) first ≡ true → came ≡ with_item (i + 1) (Some handed) one → HandedOut first second wakers before (i + 1) new came two
      handed_first came named is =
          let p = put one came was.one_long is in record {
            tasks = now_lent;
            live = now_live;
            ones = λ w b there le. ⊎_elim
                (λ (lo : w ≤ i). subst (λ (o : Option Handed). IsGiven (is_named w first) before b o) (sym (p.1 w (λ e. let no : ⊥ = omega (arith, e, lo) in no))) (was.ones w b there lo))
                (λ (e : w ≡ i + 1). there_now (is_named w first) w b came e there (subst (λ (n : ℕ). is_named n first ≡ true) (sym e) named) (p.0 w e))
                (below w i le);
            twos = λ w b there le no. ⊎_elim
                (λ (lo : w ≤ i). was.twos w b there lo no)
                (λ (e : w ≡ i + 1). absurd (true≢false (sym (subst (λ (n : ℕ). is_named n first ≡ true) (sym e) named) ∙ no)))
                (below w i le);
            one_rest = λ w lt. p.1 w (λ e. let no : ⊥ = omega (arith, e, lt) in no) ∙ was.one_rest w (omega (arith, lt));
            two_rest = λ w lt. was.two_rest w (omega (arith, lt));
            one_long = p.2;
            two_long = was.two_long;
          }

      pub handed_second : (came : List (Option Handed)) → is_named (i + 1) first ≡ false → is_named (i + 1) second ≡ true → came ≡ with_item (i + 1) (Some handed) two → HandedOut first second wakers before (i + 1) new one came
      handed_second came unnamed named is =
          let p = put two came was.two_long is in record {
            tasks = now_lent;
            live = now_live;
            ones = λ w b there le. ⊎_elim
                (λ (lo : w ≤ i). was.ones w b there lo)
                (λ (e : w ≡ i + 1). inr (subst (λ (n : ℕ). is_named n first ≡ false) (sym e) unnamed, was.one_rest w (omega (arith, e))))
                (below w i le);
            twos = λ w b there le no. ⊎_elim
                (λ (lo : w ≤ i). subst (λ (o : Option Handed). IsGiven (is_named w second) before b o) (sym (p.1 w (λ e. let no : ⊥ = omega (arith, e, lo) in no))) (was.twos w b there lo no))
                (λ (e : w ≡ i + 1). there_now (is_named w second) w b came e there (subst (λ (n : ℕ). is_named n second ≡ true) (sym e) named) (p.0 w e))
                (below w i le);
            one_rest = λ w lt. was.one_rest w (omega (arith, lt));
            two_rest = λ w lt. p.1 w (λ e. let no : ⊥ = omega (arith, e, lt) in no) ∙ was.two_rest w (omega (arith, lt));
            one_long = was.one_long;
            two_long = p.2;
          }

-- whether a waker is handed out, by the lines that name it
pub out_first : (first second : List WorkerLine) (w : ℕ) → is_named w first ≡ true → is_out (its_lines first second) w ≡ true
out_first first second w is = ap (λ (b : Bool). is_named w (if b then first else second)) is ∙ is

pub out_second : (first second : List WorkerLine) (w : ℕ) → is_named w first ≡ false → is_out (its_lines first second) w ≡ is_named w second
out_second first second w isnt = ap (λ (b : Bool). is_named w (if b then first else second)) isnt
