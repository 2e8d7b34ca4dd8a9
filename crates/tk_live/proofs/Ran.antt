-- What wakers that were handed out make, call by call and line by line.
use Rattle.std.proofs.Common.{◌≡◌, ◌≢◌, ℕ, ◌+◌, ◌<◌, ◌==◌, ◌&&◌, ◌||◌, not, Bool, true, false, cond, filter, List, [], ◌∷◌, ◌++◌, Option, Some, None, refl, ap, sym, ◌∙◌, subst, append_assoc, length, take, get_or, add-one, ⊎_elim, true≢false}
use Rattle.std.specs.Prelude.{map}
use Rattle.std.specs.List.{AllByRecursion}
use Rattle.std.proofs.Math.Bool.{or-false}
use Rattle.std.proofs.Math.Seq.{take-suc}
use Rattle.std.proofs.lemmas.Bool.{cases_eq, eq-eqb, ne_eqb}
use Rattle.std.proofs.lemmas.List.{append-nil, map-append}
use Rattle.std.proofs.lemmas.List.Elements.{filter-append}
use Rattle.std.proofs.lemmas.List.Folds.{list_any-append}
use Rattle.tk_core.specs.declared.history.Entry.{Entry}
use Rattle.tk_core.specs.declared.reply.Reply.{Reply}
use Rattle.tk_core.specs.declared.task.call.TaskCall.{TaskCall}
use Rattle.tk_core.specs.declared.task.call.TaskCall.TheVariants.{CloneWaker}
use Rattle.tk_core.specs.declared.task.row.TaskRow.{TaskRow}
use Rattle.tk_core.specs.Fold.{is_accepted, number_of}
use Rattle.tk_core.specs.History.{calls_of}
use Rattle.tk_core.specs.Legal.{maker}
use Rattle.tk_core.specs.Polls.{starts_or_ends}
use Rattle.tk_core.specs.Task.{start_at, end_at, close_at}
use Rattle.tk_core.specs.TaskMeaning.{task_meaning}
use Rattle.tk_cell.specs.declared.view.View.{View}
use Rattle.tk_cell.specs.Calls.{entry, Calls}
use Rattle.tk_cell.specs.Ours.{of_held, ours}
use Rattle.tk_cell.specs.Views.{times, list_of}
use Rattle.tk_cell.proofs.HistoryLemmas.{maker_more}
use Rattle.tk_cell.proofs.ListLemmas.{snoc_cases}
use Rattle.tk_cell.proofs.OursLemmas.{call_in_order}
use Rattle.tk_cell.proofs.RoleLemmas.{call_begins}
use Rattle.tk_ledgers.specs.Callers.{HoldsOnly}
use Rattle.tk_ledgers.proofs.CallersLemmas.{handles_stay_live}
use Rattle.tk_live.specs.Blocks.{is_last, spends, call_of, calls_by}
use Rattle.tk_live.specs.Handed.{KnownTask, TaskEntries, known_by, IsQuiet, HasMade, StaysWaker, Makes, MadeLines, RanBy, RanAt, RanAll}
use Rattle.tk_live.specs.Named.{live_item, with_item}
use Rattle.tk_live.specs.Threads.{LastsAreLast}
use Rattle.tk_live.specs.declared.handed.Handed.{Handed}
use Rattle.tk_live.specs.declared.handed.Handed.TheVariants.{Live, Spent}
use Rattle.tk_script.specs.declared.block.WakerCall.{WakerCall}
use Rattle.tk_script.specs.declared.block.WakerCall.TheVariants as calls
use Rattle.tk_script.specs.declared.block.WorkerLine.{WorkerLine}
use Rattle.tk_live.proofs.Seating.{put_back}

-- ---- lines, with one more

-- no line stands after the last call of its waker
pub lasts_more : (ls : List WorkerLine) (l : WorkerLine) → LastsAreLast ls → spends l.waker ls ≡ false → LastsAreLast (ls ++ l ∷ [])
lasts_more ls l lasts goes before after k cut = ⊎_elim
    (λ (t : (before ≡ ls) × (k ≡ l)). subst (λ (bs : List WorkerLine). spends k.waker bs ≡ false) (sym t.0) (subst (λ (x : WorkerLine). spends x.waker ls ≡ false) (sym t.1) goes))
    (λ (t : (rest : List WorkerLine) × (before ++ k ∷ rest ≡ ls)). lasts before t.0 k t.1)
    (snoc_cases before after ls k l cut)

pub lasts_front : (ls : List WorkerLine) (l : WorkerLine) → LastsAreLast (ls ++ l ∷ []) → LastsAreLast ls × (spends l.waker ls ≡ false)
lasts_front ls l lasts = (
  λ before after k cut. lasts before (after ++ l ∷ []) k (sym (append_assoc before (k ∷ after) (l ∷ [])) ∙ ap (λ (xs : List WorkerLine). xs ++ l ∷ []) cut),
  lasts ls [] l refl,
)

abbrev if_of : Bool → WorkerLine → List TaskCall
if_of b l = cond b (call_of l.call ∷ []) []

calls_more : (w : ℕ) (ls : List WorkerLine) (l : WorkerLine) → calls_by w (ls ++ l ∷ []) ≡ calls_by w ls ++ if_of (l.waker == w) l
calls_more w ls l =
    let p : WorkerLine → Bool = λ k. k.waker == w in
    let f : WorkerLine → TaskCall = λ k. call_of k.call in
    ap (map f) (filter-append p ls (l ∷ [])) ∙ (map-append f (filter p ls) (filter p (l ∷ [])) ∙ ap (λ (cs : List TaskCall). calls_by w ls ++ cs) (go (l.waker == w)))
  where
    go : (b : Bool) → map (λ (k : WorkerLine). call_of k.call) (cond b (l ∷ []) []) ≡ if_of b l
    go true = refl
    go false = refl

spends_more : (w : ℕ) (ls : List WorkerLine) (l : WorkerLine) → spends w (ls ++ l ∷ []) ≡ (spends w ls || ((l.waker == w) && is_last l.call))
spends_more w ls l =
    let p : WorkerLine → Bool = λ k. (k.waker == w) && is_last k.call in
    list_any-append p ls (l ∷ []) ∙ ap (λ (b : Bool). spends w ls || b) (or-false (p l))

-- ---- one call

of_same : (v w : View TaskRow TaskCall (Reply TaskRow)) (h : TaskEntries) → v.held ≡ w.held → of_held v h ≡ of_held w h
of_same v w h same = ap (λ (ns : List ℕ). filter (λ (e : Entry TaskCall (Reply TaskRow)). not (times e.caller ns == 0)) h) same

pub all_push : {A : Type 0} (P : A → Type 0) (xs : List A) (x : A) → AllByRecursion P xs → P x → AllByRecursion P (xs ++ x ∷ [])
all_push P [] x all here = (here, tt)
all_push P (y ∷ xs) x all here = (all.0, all_push P xs x all.1 here)

append_left : {A : Type 0} (p a b : List A) → p ++ a ≡ p ++ b → a ≡ b
append_left [] a b e = e
append_left (x ∷ p) a b e = append_left p a b cc

abbrev E : Type 0
E = Entry TaskCall (Reply TaskRow)

pub made_none : (k : KnownTask) → HasMade k [] k
made_none k = record { held = refl; caller = refl; more = []; seen = sym (append-nil k.view.seen); calls_are = refl; quiet = tt }

module _ (old mid new : KnownTask) (cs : List TaskCall) (call : TaskCall) (reply : Reply TaskRow) (was : HasMade old cs mid) (k : Calls task_meaning mid.view call reply new.view)
    (accepted : is_accepted reply ≡ true) (none : number_of reply ≡ None) (polls_not : starts_or_ends start_at end_at call ≡ None) (closes_not : close_at call ≡ None) where
  abbrev e : E
  e = entry mid.view.caller call reply

  still_held : new.view.held ≡ mid.view.held
  still_held = k.now_held ∙ (ap (λ (o : Option ℕ). mid.view.held ++ list_of o) none ∙ append-nil mid.view.held)

  abbrev grown : TaskEntries
  grown = (was.more ++ k.between) ++ e ∷ []

  sees : new.view.seen ≡ old.view.seen ++ grown
  sees =
      k.grows ∙ (ap (λ (h : TaskEntries). (h ++ k.between) ++ e ∷ []) was.seen
      ∙ (ap (λ (h : TaskEntries). h ++ e ∷ []) (append_assoc old.view.seen was.more k.between) ∙ append_assoc old.view.seen (was.more ++ k.between) (e ∷ [])))

  split : (v : View TaskRow TaskCall (Reply TaskRow)) (a b : TaskEntries) → of_held v (a ++ b) ≡ of_held v a ++ of_held v b
  split v a b = filter-append (λ (x : E). not (times x.caller v.held == 0)) a b

  own_grew : of_held old.view grown ≡ of_held old.view was.more ++ e ∷ []
  own_grew =
      let o = old.view in
      let left : ours new.view ≡ of_held o o.seen ++ of_held o grown = of_same new.view o new.view.seen (still_held ∙ was.held) ∙ (ap (of_held o) sees ∙ split o o.seen grown) in
      let right : ours mid.view ≡ of_held o o.seen ++ of_held o was.more = of_same mid.view o mid.view.seen was.held ∙ (ap (of_held o) was.seen ∙ split o o.seen was.more) in
      append_left (of_held o o.seen) (of_held o grown) (of_held o was.more ++ e ∷ [])
      (sym left ∙ (call_in_order task_meaning mid.view new.view call reply k ∙ (ap (λ (h : TaskEntries). h ++ e ∷ []) right ∙ append_assoc (of_held o o.seen) (of_held o was.more) (e ∷ []))))

  pub made_more : HasMade old (cs ++ call ∷ []) new
  made_more = record {
    held = still_held ∙ was.held;
    caller = k.same_caller ∙ was.caller;
    more = grown;
    seen = sees;
    calls_are = ap (λ (h : TaskEntries). calls_of h) own_grew ∙ (map-append (λ (x : E). x.call) (of_held old.view was.more) (e ∷ []) ∙ ap (λ (l : List TaskCall). l ++ call ∷ []) was.calls_are);
    quiet = subst (λ (h : TaskEntries). AllByRecursion IsQuiet h) (sym own_grew)
        (all_push IsQuiet (of_held old.view was.more) e was.quiet (record { accepted = accepted; draws_none = none; polls_not = polls_not; closes_not = closes_not }));
  }

-- a waker that makes a call holds wakers alone as before
only_still : (v w : View TaskRow TaskCall (Reply TaskRow)) (call : TaskCall) (reply : Reply TaskRow) → Calls task_meaning v call reply w → number_of reply ≡ None → HoldsOnly task_meaning CloneWaker v → HoldsOnly task_meaning CloneWaker w
only_still v w call reply k none only j there ne =
    let same : w.held ≡ v.held = k.now_held ∙ (ap (λ (o : Option ℕ). v.held ++ list_of o) none ∙ append-nil v.held) in
    let begins = call_begins task_meaning v call reply w k in
    let before = only j (subst (λ (ns : List ℕ). 0 < times j ns) same there) ne in
    subst (λ (h : TaskEntries). maker task_meaning j h ≡ Some CloneWaker) begins.1 (maker_more task_meaning j v.seen begins.0 CloneWaker before)

call_polls_not : (c : WakerCall) → starts_or_ends start_at end_at (call_of c) ≡ None
call_polls_not (calls.WakeRef m) = refl
call_polls_not (calls.Wake m) = refl
call_polls_not calls.Release = refl

call_closes_not : (c : WakerCall) → close_at (call_of c) ≡ None
call_closes_not (calls.WakeRef m) = refl
call_closes_not (calls.Wake m) = refl
call_closes_not calls.Release = refl

call_last : (c : WakerCall) → task_meaning.is_last (call_of c) ≡ is_last c
call_last (calls.WakeRef m) = refl
call_last (calls.Wake m) = refl
call_last calls.Release = refl

-- ---- one waker, with one line more

stays_trans : (a b c : KnownTask) → StaysWaker a b → StaysWaker b c → StaysWaker a c
stays_trans a b c p q = record { ledger = q.ledger ∙ p.ledger; wakers = λ only. q.wakers (p.wakers only) }

stays_made : (call : WakerCall) (mid new : Handed) → Makes call mid new → StaysWaker (known_by mid) (known_by new)
stays_made call (Live h) new made = record { ledger = made.ledger; wakers = only_still h.token.view (known_by new).view (call_of call) made.reply made.made made.draws_none }
stays_made call (Spent r) new made = record {
  ledger = ap (λ (x : Handed). (known_by x).ledger) made;
  wakers = λ only. subst (λ (x : Handed). HoldsOnly task_meaning CloneWaker (known_by x).view) (sym made) only;
}

module _ (ls : List WorkerLine) (l : WorkerLine) (w : ℕ) (old : Handed) where
  here : (mid new : Handed) → l.waker ≡ w → Makes l.call mid new → MadeLines ls w old mid → spends w ls ≡ false → MadeLines (ls ++ l ∷ []) w old new
  here (Spent r) new is made was goes = let spent : true ≡ false = was.spent ∙ goes in absurd (true≢false spent)
  here (Live h) new is made was goes =
      let named : (l.waker == w) ≡ true = eq-eqb l.waker w is in
      let last : spends w (ls ++ l ∷ []) ≡ is_last l.call = spends_more w ls l ∙ (ap (λ (b : Bool). b || ((l.waker == w) && is_last l.call)) goes ∙ ap (λ (b : Bool). b && is_last l.call) named) in
      let more : calls_by w (ls ++ l ∷ []) ≡ calls_by w ls ++ call_of l.call ∷ [] = calls_more w ls l ∙ ap (λ (b : Bool). calls_by w ls ++ if_of b l) named in
      record {
        made = subst (λ (cs : List TaskCall). HasMade (known_by old) cs (known_by new)) (sym more)
            (made_more (known_by old) h.token (known_by new) (calls_by w ls) (call_of l.call) made.reply was.made made.made made.accepted made.draws_none (call_polls_not l.call) (call_closes_not l.call));
        spent = made.spent ∙ sym last;
        live = λ alive stays. handles_stay_live task_meaning h.token.view (known_by new).view (call_of l.call) made.reply made.made (was.live alive goes) (call_last l.call ∙ (sym last ∙ stays));
      }

  pub ran_here : (mid new : Handed) → l.waker ≡ w → Makes l.call mid new → RanBy ls w old mid → RanBy (ls ++ l ∷ []) w old new
  ran_here mid new is made was = record {
    stays = stays_trans (known_by old) (known_by mid) (known_by new) was.stays (stays_made l.call mid new made);
    did = λ lasts alive. let f = lasts_front ls l lasts in here mid new is made (was.did f.0 alive) (subst (λ (n : ℕ). spends n ls ≡ false) is f.1);
  }

  pub ran_beside : (new : Handed) → (w ≡ l.waker → ⊥) → RanBy ls w old new → RanBy (ls ++ l ∷ []) w old new
  ran_beside new isnt was = record { stays = was.stays; did = λ lasts alive. let f = lasts_front ls l lasts in still (was.did f.0 alive) }
    where
      still : MadeLines ls w old new → MadeLines (ls ++ l ∷ []) w old new
      still m =
          let unnamed : (l.waker == w) ≡ false = ne_eqb l.waker w (λ e. isnt (sym e)) in
          let same : spends w (ls ++ l ∷ []) ≡ spends w ls = spends_more w ls l ∙ (ap (λ (b : Bool). spends w ls || (b && is_last l.call)) unnamed ∙ or-false (spends w ls)) in
          let calls_same : calls_by w (ls ++ l ∷ []) ≡ calls_by w ls = calls_more w ls l ∙ (ap (λ (b : Bool). calls_by w ls ++ if_of b l) unnamed ∙ append-nil (calls_by w ls)) in
          record {
            made = subst (λ (cs : List TaskCall). HasMade (known_by old) cs (known_by new)) (sym calls_same) m.made;
            spent = m.spent ∙ sym same;
            live = λ alive stays. m.live alive (sym same ∙ stays);
          }

-- ---- all wakers of a list, with one line more

module _ (ls : List WorkerLine) (l : WorkerLine) (w : ℕ) where
  at_here : (first mid new : Option Handed) (x y : Handed) → w ≡ l.waker → mid ≡ Some x → new ≡ Some y → Makes l.call x y → RanAt ls w first mid → RanAt (ls ++ l ∷ []) w first new
  at_here None mid new x y is m n made was = absurd (subst (λ (o : Option Handed). RanAt ls w None o) m was)
  at_here (Some f) mid new x y is m n made was =
      subst (λ (o : Option Handed). RanAt (ls ++ l ∷ []) w (Some f) o) (sym n) (ran_here ls l w f x y (sym is) made (subst (λ (o : Option Handed). RanAt ls w (Some f) o) m was))

  at_beside : (first mid : Option Handed) → (w ≡ l.waker → ⊥) → RanAt ls w first mid → RanAt (ls ++ l ∷ []) w first mid
  at_beside None None isnt was = tt
  at_beside None (Some x) isnt was = absurd was
  at_beside (Some f) None isnt was = absurd was
  at_beside (Some f) (Some x) isnt was = ran_beside ls l w f x isnt was

  at_none : (first mid : Option Handed) → mid ≡ None → RanAt ls w first mid → RanAt (ls ++ l ∷ []) w first mid
  at_none None None is was = tt
  at_none None (Some x) is was = absurd was
  at_none (Some f) None is was = absurd was
  at_none (Some f) (Some x) is was = absurd cc

module _ (first old : List (Option Handed)) (ls : List WorkerLine) (l : WorkerLine) (was : RanAll ls first old) where
  -- the waker of the line isn't there
  pub ran_nothing : (new : List (Option Handed)) → live_item l.waker old ≡ None → new ≡ old → RanAll (ls ++ l ∷ []) first new
  ran_nothing new none same = subst (λ (xs : List (Option Handed)). RanAll (ls ++ l ∷ []) first xs) (sym same) (λ w. ⊎_elim
      (λ (is : w ≡ l.waker). at_none ls l w (live_item w first) (live_item w old) (ap (λ (n : ℕ). live_item n old) is ∙ none) (was w))
      (λ (isnt : w ≢ l.waker). at_beside ls l w (live_item w first) (live_item w old) isnt (was w))
      (cases_eq w l.waker))

  -- it made its call
  pub ran_line : (left new : List (Option Handed)) (x y : Handed) → live_item l.waker old ≡ Some x → Makes l.call x y → left ≡ with_item l.waker None old → new ≡ with_item l.waker (Some y) left → RanAll (ls ++ l ∷ []) first new
  ran_line left new x y there made gone came w =
      let p = put_back l.waker old left new x y there gone came in ⊎_elim
      (λ (is : w ≡ l.waker). at_here ls l w (live_item w first) (live_item w old) (live_item w new) x y is (ap (λ (n : ℕ). live_item n old) is ∙ there) (ap (λ (n : ℕ). live_item n new) is ∙ p.0) made (was w))
      (λ (isnt : w ≢ l.waker). subst (λ (o : Option Handed). RanAt (ls ++ l ∷ []) w (live_item w first) o) (sym (p.1 w isnt)) (at_beside ls l w (live_item w first) (live_item w old) isnt (was w)))
      (cases_eq w l.waker)

-- no line was run yet
pub ran_none : (xs : List (Option Handed)) → RanAll [] xs xs
ran_none xs w = go (live_item w xs)
  where
    go : (o : Option Handed) → RanAt [] w o o
    go None = tt
    go (Some x) = record {
      stays = record { ledger = refl; wakers = λ only. only };
      did = λ lasts alive. record { made = made_none (known_by x); spent = alive; live = λ live stays. live };
    }

-- the lines so far, with the next one
pub ran_more : (lines : List WorkerLine) (n : ℕ) (d : WorkerLine) (first new : List (Option Handed)) → n < length lines → RanAll (take n lines ++ get_or lines n d ∷ []) first new → RanAll (take (n + 1) lines) first new
ran_more lines n d first new below was = subst (λ (ls : List WorkerLine). RanAll ls first new) (sym (ap (λ k. take k lines) (add-one n) ∙ take-suc lines n d below)) was
