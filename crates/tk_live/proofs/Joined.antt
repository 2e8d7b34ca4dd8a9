-- What a block of threads leaves of the tasks whose wakers it ran.
use Rattle.std.proofs.Common.{◌≡◌, ℕ, zero, suc, ◌+◌, ◌<◌, ◌≤◌, ◌⊎◌, ◌==◌, ◌||◌, Bool, true, false, cond, filter, not, List, [], ◌∷◌, ◌++◌, Option, Some, None, refl, ap, sym, ◌∙◌, subst, arith, append_assoc, inl, inr, ⊎_elim}
use Rattle.std.specs.Prelude.{map, if◌then◌else◌, unwrap_or, is_some, option_map}
use Rattle.std.specs.List.{AllByRecursion}
use Rattle.std.specs.Option.{option_or}
use Rattle.std.proofs.Math.Bool.{or-false}
use Rattle.std.proofs.lemmas.Bool.{ne_eqb}
use Rattle.std.proofs.lemmas.List.{append-nil, map-append}
use Rattle.std.proofs.lemmas.List.Elements.{filter-append}
use Rattle.std.proofs.lemmas.List.Folds.{list_any-append}
use Rattle.tk_core.specs.declared.history.Entry.{Entry}
use Rattle.tk_core.specs.declared.reply.Reply.{Reply}
use Rattle.tk_core.specs.declared.task.call.TaskCall.{TaskCall}
use Rattle.tk_core.specs.declared.task.row.TaskRow.{TaskRow}
use Rattle.tk_core.specs.Fold.{is_accepted}
use Rattle.tk_core.specs.History.{calls_of}
use Rattle.tk_core.specs.Laws.Pushed.{last_of_push}
use Rattle.tk_core.specs.Lists.{last_of}
use Rattle.tk_core.specs.Polls.{is_polling, starts_or_ends}
use Rattle.tk_core.specs.Task.{start_at, end_at, close_at}
use Rattle.tk_core.specs.TaskMeaning.{task_meaning}
use Rattle.tk_cell.specs.declared.view.View.{View}
use Rattle.tk_cell.specs.Views.{times, Holds}
use Rattle.tk_cell.specs.Ours.{is_held, of_held, ours}
use Rattle.tk_ledgers.specs.Callers.{HoldsAllBut}
use Rattle.tk_ledgers.specs.Times.{TimesSight, runs_of}
use Rattle.tk_live.specs.Blocks.{Block, is_named, spends, call_of, calls_by, calls_on, tasks_after, wakers_after, lines_of_both, after_block}
use Rattle.tk_live.specs.Handed.{TaskEntries, IsQuiet, IsLiveIn, Share, its_lines, is_out, IsOut, IsLent, calls_for, IsBackFrom, TakenBack}
use Rattle.tk_live.specs.Items.{EachFrom, IsTask, woken_by, HoldsTasks}
use Rattle.tk_live.specs.Named.{live_item}
use Rattle.tk_live.specs.Pasts.{TaskPast, Pasts, AreBeside, beside, and_called}
use Rattle.tk_live.specs.Threads.{Apart, AreSameTasks}
use Rattle.tk_live.specs.declared.items.TaskItem.{TaskItem}
use Rattle.tk_live.specs.declared.items.WakerItem.{WakerItem}
use Rattle.tk_script.specs.declared.block.WorkerLine.{WorkerLine}
use Rattle.tk_live.proofs.Back.{calls_none}
use Rattle.tk_live.proofs.Marks.{unspent}
use Rattle.tk_live.proofs.Orders.{order_beside, outside_beside}
use Rattle.tk_live.proofs.Seating.{live_within}

abbrev E : Type 0
E = Entry TaskCall (Reply TaskRow)

abbrev V : Type 0
V = View TaskRow TaskCall (Reply TaskRow)

-- ---- lists

filter_ext : {A : Type 0} (p q : A → Bool) → ((x : A) → p x ≡ q x) → (xs : List A) → filter p xs ≡ filter q xs
filter_ext p q same [] = refl
filter_ext {A} p q same (x ∷ xs) = ap (λ (b : Bool). cond b (x ∷ filter p xs) (filter p xs)) (same x) ∙ ap (λ (l : List A). cond (q x) (x ∷ l) l) (filter_ext p q same xs)

all_append : {A : Type 0} (P : A → Type 0) (xs ys : List A) → AllByRecursion P xs → AllByRecursion P ys → AllByRecursion P (xs ++ ys)
all_append P [] ys a b = b
all_append P (x ∷ xs) ys a b = (a.0, all_append P xs ys a.1 b)

all_map : {A : Type 0} (P Q : A → Type 0) (xs : List A) → ((x : A) → P x → Q x) → AllByRecursion P xs → AllByRecursion Q xs
all_map P Q [] f a = tt
all_map P Q (x ∷ xs) f a = (f x a.0, all_map P Q xs f a.1)

-- an element of two lists in a row stands in the first, or in the second
in_two : {A : Type 0} (P : A → Type 0) (before after xs ys : List A) (x : A) → before ++ x ∷ after ≡ xs ++ ys → AllByRecursion P ys → ((rest : List A) × (before ++ x ∷ rest ≡ xs)) ⊎ P x
in_two P [] after [] [] x cut all = absurd cc
in_two P [] after [] (y ∷ ys) x cut all = let same : y ≡ x = cc in inr (subst P same all.0)
in_two P [] after (z ∷ xs) ys x cut all = let same : x ≡ z = cc in inl (xs, ap (λ w. w ∷ xs) same)
in_two P (b ∷ before) after [] [] x cut all = absurd cc
in_two {A} P (b ∷ before) after [] (y ∷ ys) x cut all =
    let tails : before ++ x ∷ after ≡ [] ++ ys = cc in ⊎_elim
    (λ (t : (rest : List A) × (before ++ x ∷ rest ≡ [])). absurd (not_nil before t.0 x t.1))
    (λ (p : P x). inr p)
    (in_two P before after [] ys x tails all.1)
  where
    not_nil : {A : Type 0} (xs ys : List A) (x : A) → xs ++ x ∷ ys ≡ [] → ⊥
    not_nil [] ys x e = cc
    not_nil (y ∷ xs) ys x e = cc
in_two {A} P (b ∷ before) after (z ∷ xs) ys x cut all =
    let heads : b ≡ z = cc in let tails : before ++ x ∷ after ≡ xs ++ ys = cc in ⊎_elim
    (λ (t : (rest : List A) × (before ++ x ∷ rest ≡ xs)). inl (t.0, cc (heads, t.1)))
    (λ (p : P x). inr p)
    (in_two P before after xs ys x tails all)

-- calls of which a function picks nothing change nothing of what it picks last
last_quiet : {Y : Type 0} (f : TaskCall → Option Y) (xs : List TaskCall) (ys : TaskEntries) → AllByRecursion (λ (e : E). f e.call ≡ None) ys → last_of f (xs ++ calls_of ys) ≡ last_of f xs
last_quiet f xs [] quiet = ap (last_of f) (append-nil xs)
last_quiet {Y} f xs (e ∷ ys) quiet =
    ap (last_of f) (sym (append_assoc xs (e.call ∷ []) (calls_of ys))) ∙ (last_quiet f (xs ++ e.call ∷ []) ys quiet.1 ∙ (last_of_push f xs e.call ∙ ap (λ (o : Option Y). option_or o (last_of f xs)) quiet.0))

-- ---- one task

module _ (n : ℕ) (p : TaskPast) (t u : TaskItem) (Out : ℕ → Type 0) (more : TaskEntries) (lists : List (List TaskCall)) (is : IsTask n p t) (l : IsLent Out more t u) (home : (j : ℕ) → Out j → ⊥)
    (are : AreBeside lists (calls_of (of_held u.callers.token.view more))) where
  abbrev tv : V
  tv = t.callers.token.view

  abbrev uv : V
  uv = u.callers.token.view

  abbrev extra : TaskEntries
  extra = of_held uv more

  still : (j : ℕ) → Holds tv j → Holds uv j
  still j h = ⊎_elim (λ (a : Holds uv j). a) (λ (o : Out j). absurd (home j o)) (l.rest j h)

  tests : (a b : ℕ) → (0 < a → 0 < b) → (0 < b → 0 < a) → not (a == 0) ≡ not (b == 0)
  tests zero zero f g = refl
  tests zero (suc b) f g = let none : 0 < 0 = g (omega arith) in absurd (omega (arith, none))
  tests (suc a) zero f g = let none : 0 < 0 = f (omega arith) in absurd (omega (arith, none))
  tests (suc a) (suc b) f g = ap not (ne_eqb (suc a) 0 (λ (e : suc a ≡ 0). let nope : ⊥ = omega (arith, e) in nope)) ∙ sym (ap not (ne_eqb (suc b) 0 (λ (e : suc b ≡ 0). let nope : ⊥ = omega (arith, e) in nope)))

  same_test : (j : ℕ) → is_held uv j ≡ is_held tv j
  same_test j = tests (times j uv.held) (times j tv.held) (l.fewer j) (still j)

  ours_grew : ours uv ≡ ours tv ++ extra
  ours_grew =
      ap (of_held uv) l.seen ∙ (filter-append (λ (e : E). is_held uv e.caller) tv.seen more
      ∙ ap (λ (h : TaskEntries). h ++ extra) (filter_ext (λ (e : E). is_held uv e.caller) (λ (e : E). is_held tv e.caller) (λ e. same_test e.caller) tv.seen))

  calls_are : calls_of (ours uv) ≡ is.calls ++ calls_of extra
  calls_are = ap (λ (h : TaskEntries). calls_of h) ours_grew ∙ (map-append (λ (e : E). e.call) (ours tv) extra ∙ ap (λ (cs : List TaskCall). cs ++ calls_of extra) is.called.in_order)

  all_held : HoldsAllBut task_meaning (1 ∷ []) uv
  all_held before after e cut j drawn = ⊎_elim
      (λ (s : (rest : TaskEntries) × (before ++ e ∷ rest ≡ ours tv)). ⊎_elim
      (λ (h : Holds tv j). inl (still j h))
      (λ (o : 0 < times j (1 ∷ [])). inr o)
      (is.called.holds before s.0 e s.1 j drawn))
      (λ (q : IsQuiet e). absurd (none_some j (sym q.draws_none ∙ drawn)))
      (in_two IsQuiet before after (ours tv) extra e (cut ∙ ours_grew) l.quiet)
    where
      none_some : (k : ℕ) → None ≡ Some k → ⊥
      none_some k e = cc

  pub joined_task : IsTask n (and_called (beside lists ∷ []) p) u
  joined_task = record {
    id = l.hand.id ∙ is.id;
    calls = is.calls ++ calls_of extra;
    order = order_beside p.called is.calls lists (calls_of extra) is.order are;
    called = record {
      opened = l.opening ∙ is.called.opened;
      in_order = calls_are;
      accepted = subst (λ (h : TaskEntries). AllByRecursion (λ (e : E). is_accepted e.reply ≡ true) h) (sym ours_grew)
          (all_append (λ (e : E). is_accepted e.reply ≡ true) (ours tv) extra is.called.accepted (all_map IsQuiet (λ (e : E). is_accepted e.reply ≡ true) extra (λ e q. q.accepted) l.quiet));
      holds = all_held;
    };
    polled = ap (λ (o : Option Bool). unwrap_or o false) (last_quiet (starts_or_ends start_at end_at) is.calls extra (all_map IsQuiet (λ (e : E). starts_or_ends start_at end_at e.call ≡ None) extra (λ e q. q.polls_not) l.quiet))
        ∙ (is.polled ∙ sym (ap (is_polling start_at end_at) (outside_beside p.called lists)));
    closed = ap (λ (o : Option ℕ). is_some o) (last_quiet close_at is.calls extra (all_map IsQuiet (λ (e : E). close_at e.call ≡ None) extra (λ e q. q.closes_not) l.quiet))
        ∙ (is.closed ∙ sym (ap (λ (cs : List TaskCall). is_some (last_of close_at cs)) (outside_beside p.called lists)));
    is_closed = l.hand.closed ∙ (is.is_closed ∙ sym (ap (λ (cs : List TaskCall). is_some (last_of close_at cs)) (outside_beside p.called lists)));
    times = λ o at. let was = is.times o (sym l.hand.times ∙ at) in (was.0, was.1 ∙ ap (λ (cs : List TaskCall). runs_of cs) (sym (outside_beside p.called lists)));
    started = λ polls. ap (last_of start_at) (outside_beside p.called lists)
        ∙ (is.started (sym (ap (is_polling start_at end_at) (outside_beside p.called lists)) ∙ polls) ∙ ap (λ m. Some m) (sym l.hand.started));
  }

-- ---- lines of both workers

calls_both : (w : ℕ) (first second : List WorkerLine) → calls_by w (first ++ second) ≡ calls_by w first ++ calls_by w second
calls_both w first second =
    ap (map (λ (k : WorkerLine). call_of k.call)) (filter-append (λ (k : WorkerLine). k.waker == w) first second)
    ∙ map-append (λ (k : WorkerLine). call_of k.call) (filter (λ (k : WorkerLine). k.waker == w) first) (filter (λ (k : WorkerLine). k.waker == w) second)

spends_both : (w : ℕ) (first second : List WorkerLine) → spends w (first ++ second) ≡ (spends w first || spends w second)
spends_both w first second = list_any-append _ first second

module _ (first second : List WorkerLine) (apart : Apart first second) (w : ℕ) where
  abbrev its : List WorkerLine
  its = its_lines first second w

  pub its_calls : calls_by w its ≡ calls_by w (first ++ second)
  its_calls = go (is_named w first) refl
    where
      go : (b : Bool) → is_named w first ≡ b → calls_by w (if b then first else second) ≡ calls_by w (first ++ second)
      go true is = sym (calls_both w first second ∙ (ap (λ (cs : List TaskCall). calls_by w first ++ cs) (calls_none w second (apart w is)) ∙ append-nil (calls_by w first)))
      go false is = sym (calls_both w first second ∙ ap (λ (cs : List TaskCall). cs ++ calls_by w second) (calls_none w first is))

  pub its_spends : spends w its ≡ spends w (first ++ second)
  its_spends = go (is_named w first) refl
    where
      go : (b : Bool) → is_named w first ≡ b → spends w (if b then first else second) ≡ spends w (first ++ second)
      go true is = sym (spends_both w first second ∙ (ap (λ (b : Bool). spends w first || b) (unspent w second (apart w is)) ∙ or-false (spends w first)))
      go false is = sym (spends_both w first second ∙ ap (λ (b : Bool). b || spends w second) (unspent w first is))

calls_so : (share : Share) (ls : List WorkerLine) → ((w : ℕ) → calls_by w (share w) ≡ calls_by w ls) → (n w : ℕ) (wakers : List (Option WakerItem)) → calls_for share n w wakers ≡ calls_on n w (woken_by wakers) ls
calls_so share ls same n w [] = refl
calls_so share ls same n w (None ∷ wakers) = calls_so share ls same n (w + 1) wakers
calls_so share ls same n w (Some a ∷ wakers) =
    ap (λ (rest : List (List TaskCall)). if a.task == n then calls_by w (share w) ∷ rest else rest) (calls_so share ls same n (w + 1) wakers)
    ∙ ap (λ (cs : List TaskCall). if a.task == n then cs ∷ calls_on n (w + 1) (woken_by wakers) ls else calls_on n (w + 1) (woken_by wakers) ls) (same w)

-- ---- all tasks

-- they are the same by their ids and ledgers
pub joined_same : (share : Share) (wakers : List (Option WakerItem)) (before now : List TaskItem) → TakenBack share wakers before 0 now → AreSameTasks before now
joined_same share wakers before now back = go 1 before now back.tasks
  where
    go : (n : ℕ) (ts us : List TaskItem) → EachFrom (IsBackFrom share wakers 0) n ts us → AreSameTasks ts us
    go n [] [] b = tt
    go n [] (u ∷ us) b = absurd b
    go n (t ∷ ts) [] b = absurd b
    go n (t ∷ ts) (u ∷ us) b = ((b.0.1.hand.id, b.0.1.hand.ledger, ap (option_map (λ (o : TimesSight). o.token.ledger)) b.0.1.hand.times), go (n + 1) ts us b.1)

module _ (share : Share) (ls : List WorkerLine) (same : (w : ℕ) → calls_by w (share w) ≡ calls_by w ls) (wakers : List (Option WakerItem)) where
  -- none is out any more
  home_all : (n j : ℕ) → IsOut share wakers 0 n j → ⊥
  home_all n j o = let low = (live_within o.0 wakers o.1 o.3).0 in let high = o.2 in omega (arith, low, high)

  joined_one : (n : ℕ) (p : TaskPast) (t u : TaskItem) → IsTask n p t → IsBackFrom share wakers 0 n t u → IsTask n (and_called (beside (calls_on n 1 (woken_by wakers) ls) ∷ []) p) u
  joined_one n p t u is b =
      joined_task n p t u (IsOut share wakers 0 n) b.0 (calls_on n 1 (woken_by wakers) ls) is b.1 (home_all n)
      (subst (λ (lists : List (List TaskCall)). AreBeside lists (calls_of (of_held u.callers.token.view b.0))) (calls_so share ls same n 1 wakers) b.2)

  joined_each : (n : ℕ) (ps : List TaskPast) (ts us : List TaskItem) → EachFrom IsTask n ps ts → EachFrom (IsBackFrom share wakers 0) n ts us → EachFrom IsTask n (tasks_after n (woken_by wakers) ls ps) us
  joined_each n [] [] [] a b = tt
  joined_each n [] [] (u ∷ us) a b = absurd b
  joined_each n [] (t ∷ ts) us a b = absurd a
  joined_each n (p ∷ ps) [] us a b = absurd a
  joined_each n (p ∷ ps) (t ∷ ts) [] a b = absurd b
  joined_each n (p ∷ ps) (t ∷ ts) (u ∷ us) a b = (joined_one n p t u a.0 b.0, joined_each (n + 1) ps ts us a.1 b.1)

  module _ (before now : List TaskItem) (back : TakenBack share wakers before 0 now) where
    pub joined_holds : (b : Block) (ps : Pasts) (new : List (Option WakerItem)) → lines_of_both b ≡ ls → ((w : ℕ) → spends w (share w) ≡ spends w ls) → HoldsTasks before wakers ps → woken_by new ≡ wakers_after 1 ls (woken_by wakers)
        → ((w : ℕ) (a : WakerItem) → live_item w new ≡ Some a → (live_item w wakers ≡ Some a) × (spends w ls ≡ false)) → HoldsTasks now new (after_block b ps)
    joined_holds b ps new lines spent held woken left = record {
      tasks_are = subst (λ (os : List (Option ℕ)). EachFrom IsTask 1 (tasks_after 1 os (lines_of_both b) ps.tasks) now) held.wakers_are
          (subst (λ (k : List WorkerLine). EachFrom IsTask 1 (tasks_after 1 (woken_by wakers) k ps.tasks) now) (sym lines) (joined_each 1 ps.tasks before now held.tasks_are back.tasks));
      wakers_are = woken ∙ (ap (λ (os : List (Option ℕ)). wakers_after 1 ls os) held.wakers_are ∙ ap (λ (k : List WorkerLine). wakers_after 1 k ps.wakers) (sym lines));
      are_live = record {
        live = λ w a there. let was = left w a there in ⊎_elim
            (λ (t : (w ≤ 0) × (is_out share w ≡ true)). let low = (live_within w wakers a was.0).0 in let high = t.0 in absurd (omega (arith, low, high)))
            (λ (t : IsLiveIn now a). t)
            (back.live w a was.0 (spent w ∙ was.1));
        apart = λ v w a b at there. held.are_live.apart v w a b (left v a at).0 (left w b there).0;
      };
    }
