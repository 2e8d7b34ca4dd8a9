-- What an interpreter stands for after a command of a waker, and after one that draws a waker.
use Rattle.std.proofs.Common.{◌≡◌, ◌≢◌, ◌⊎◌, ℕ, ◌+◌, ◌-◌, ◌<◌, ◌≤◌, Bool, List, [], ◌∷◌, ◌++◌, length, get_or, Option, Some, None, inl, inr, refl, sym, ap, ◌∙◌, subst, arith}
use Rattle.std.specs.Prelude.{slice_get, slice_set, option_map, Result, Ok, Err}
use Rattle.std.specs.Option.{option_map_or}
use Rattle.std.proofs.lemmas.List.{map-append}
use Rattle.tk_core.specs.declared.task.call.TaskCall.{TaskCall}
use Rattle.tk_core.specs.declared.task.call.TaskCall.TheVariants.{CloneWaker}
use Rattle.tk_core.specs.declared.reply.Refusal.TheVariants.{HandlesSpent}
use Rattle.tk_core.specs.TaskMeaning.{task_meaning}
use Rattle.tk_ledgers.specs.Callers.{IsLive}
use Rattle.tk_stream.specs.Streams.{Sending}
use Rattle.tk_script.specs.Commands.{Said}
use Rattle.tk_live.specs.Course.{Course, step}
use Rattle.tk_live.specs.Items.{IsTask, AreWakers, Holds, IsSameTask, WakerDid, IsSpent, Draws, woken_by}
use Rattle.tk_live.specs.Named.{made_item, live_item, with_item}
use Rattle.tk_live.specs.Pasts.{TaskPast, Pasts, one, task_called, waker_called, waker_spent, waker_drawn}
use Rattle.tk_live.specs.Runs.{Represents, DrawsWaker, RepresentsSome, SilentSpec}
use Rattle.tk_live.specs.Stops.{IsReply, StopByEnvironment, stop_by_text}
use Rattle.tk_live.specs.declared.interpreter.Interpreter.{Interpreter}
use Rattle.tk_live.specs.declared.items.TaskItem.{TaskItem}
use Rattle.tk_live.specs.declared.items.WakerItem.{WakerItem}
use Rattle.tk_script.specs.declared.settings.Settings.{Settings}
use Rattle.tk_script.specs.declared.stop.Stop.{Stop}
use Rattle.tk_script.specs.declared.stop.Stop.TheVariants.{Call, Memory, NoSuchItem}
use Rattle.tk_live.proofs.Places.{set-map, made_put, at_place, made_place, each_made, live_item-map, live_spent, live_more, get_put, get_read, within}
use Rattle.tk_live.proofs.Standing.{TasksStay, resources_rest, ops_rest, untold, went_on, calling}
use Rattle.tk_live.proofs.OnTasks.{tasks_numbered, tasks_stay, wakers_stay, tasks_called, task_went}

-- the task of a waker that isn't spent, as the text tells of it
pub woken_told : (wakers : List (Option WakerItem)) (told : List (Option ℕ)) (w : ℕ) (a : WakerItem) → woken_by wakers ≡ told → live_item w wakers ≡ Some a → live_item w told ≡ Some a.task
woken_told wakers told w a are live = ap (live_item w) (sym are) ∙ (live_item-map (λ (b : WakerItem). b.task) w wakers ∙ ap (option_map (λ (b : WakerItem). b.task)) live)

-- and of one that is, or wasn't made
pub unwoken_told : (wakers : List (Option WakerItem)) (told : List (Option ℕ)) (w : ℕ) → woken_by wakers ≡ told → live_item w wakers ≡ None → live_item w told ≡ None
unwoken_told wakers told w are none = ap (live_item w) (sym are) ∙ (live_item-map (λ (b : WakerItem). b.task) w wakers ∙ ap (option_map (λ (b : WakerItem). b.task)) none)

-- what a waker calls is called on its task
pub waker_calls : (w n : ℕ) (call : TaskCall) (ps : Pasts) → live_item w ps.wakers ≡ Some n → waker_called w call ps ≡ task_called n (call ∷ []) ps
waker_calls w n call ps live = ap (λ (o : Option ℕ). option_map_or (λ m. task_called m (call ∷ []) ps) o ps) live

-- the task of a waker that isn't spent is there, and the waker is live in its hand
pub record WakerAt (tasks : List TaskItem) (a : WakerItem) : Type 0 where
  pub first : 1 ≤ a.task
  pub is : a.task ≡ a.task - 1 + 1
  pub within : a.task - 1 < length tasks
  pub task : TaskItem
  pub stood : slice_get tasks (a.task - 1) ≡ Some task
  pub live : IsLive task_meaning task.callers.token.view a.number

pub waker_at : (i : Interpreter) → RepresentsSome i → (w : ℕ) (a : WakerItem) → live_item w i.wakers.items ≡ Some a → WakerAt i.tasks.items a
waker_at i stands w a live =
    let there = stands.4.holds.tasks_are.are_live.live w a live in
    let at = made_place a.task i.tasks.items there.0 there.1 in
    let place : at.0 ≡ a.task - 1 = omega (arith, at.1) in
    record {
      first = omega (arith, at.1);
      is = omega (arith, at.1);
      within = omega (arith, place, within i.tasks.items at.0 there.0 at.2);
      task = there.0;
      stood = ap (slice_get i.tasks.items) (sym place) ∙ at.2;
      live = there.2;
    }

-- so is the task that is read there
pub waker_read : (tasks : List TaskItem) (a : WakerItem) (t : TaskItem) → WakerAt tasks a → t ≡ get_or tasks (a.task - 1) t → (slice_get tasks (a.task - 1) ≡ Some t) × IsLive task_meaning t.callers.token.view a.number
waker_read tasks a t at read =
    let stood : slice_get tasks (a.task - 1) ≡ Some t = get_read tasks (a.task - 1) t t at.within read in
    let both : Some at.task ≡ Some t = sym at.stood ∙ stood in
    let same : at.task ≡ t = cc in
    (stood, subst (λ (u : TaskItem). IsLive task_meaning u.callers.token.view a.number) same at.live)

-- a command of a waker that stays did what the call did
pub waker_did : (i new : Interpreter) (line w place : ℕ) (a : WakerItem) (s : Said) (call : TaskCall) (old next : TaskItem)
    → slice_get i.tasks.items place ≡ Some old → live_item w i.wakers.items ≡ Some a → a.task ≡ place + 1 → new.tasks.items ≡ slice_set i.tasks.items place next → IsSameTask old next → WakerDid call old next
    → ((c : Course) → live_item w c.pasts.wakers ≡ Some a.task → stop_by_text c s ≡ None) → ((c : Course) → step c line s ≡ calling c (waker_called w call c.pasts))
    → new ≡ record i { tasks = new.tasks } → SilentSpec line s i new (Ok tt)
waker_did i new line w place a s call old next stood live is put same did stops steps whole settings c kept sent stands =
    let told = woken_told i.wakers.items c.pasts.wakers w a stands.holds.tasks_are.wakers_are live in (
      stops c told,
      [],
      subst (λ (d : Course). Represents new settings d (kept ++ []) sent) (sym (steps c ∙ ap (calling c) (waker_calls w a.task call c.pasts told)))
          (task_went i new settings c kept sent a.task place old next (call ∷ []) stands stood is put same (λ p h. did a.task p h) whole),
    )

-- a command of a waker that is spent or wasn't made stops
pub no_waker : (i : Interpreter) (line w : ℕ) (s : Said) → live_item w i.wakers.items ≡ None
    → ((c : Course) → live_item w c.pasts.wakers ≡ None → stop_by_text c s ≡ Some NoSuchItem) → SilentSpec line s i i (Err NoSuchItem)
no_waker i line w s none stops settings c kept sent stands = inl (stops c (unwoken_told i.wakers.items c.pasts.wakers w stands.holds.tasks_are.wakers_are none))

-- the other wakers stay live where one is spent
pub wakers_left : (tasks : List TaskItem) (place : ℕ) (old next : TaskItem) (wakers : List (Option WakerItem)) (w : ℕ) (a : WakerItem)
    → slice_get tasks place ≡ Some old → live_item w wakers ≡ Some a → a.task ≡ place + 1 → IsSpent a.number old next → AreWakers tasks wakers → AreWakers (slice_set tasks place next) (with_item w None wakers)
wakers_left tasks place old next wakers w a stood live is spent are = record {
  live = λ v b now.
      let before = live_spent w wakers v b a live now in
      let was = are.live v b before.0 in
      let still = made_put (λ m x y. (k : ℕ) → (m ≡ place + 1 → k ≢ a.number) → IsLive task_meaning x.callers.token.view k → IsLive task_meaning y.callers.token.view k) (λ m x k other h. h) tasks place old next b.task was.0 stood
      (λ k other h. spent.live k (other refl) h) was.1 in
      (still.0, still.1, still.2 b.number (λ at number. before.1 (are.apart v w b a before.0 live (at ∙ sym is) number)) was.2);
  apart = λ v u b d now_v now_u. are.apart v u b d (live_spent w wakers v b a live now_v).0 (live_spent w wakers u d a live now_u).0;
}

-- a waker made its last call
pub waker_went : (i new : Interpreter) (settings : Settings) (c : Course) (kept : List Bool) (sent : List Sending) (w place : ℕ) (a : WakerItem) (call : TaskCall) (old next : TaskItem) → Represents i settings c kept sent
    → slice_get i.tasks.items place ≡ Some old → live_item w i.wakers.items ≡ Some a → a.task ≡ place + 1 → new.tasks.items ≡ slice_set i.tasks.items place next → new.wakers.items ≡ with_item w None i.wakers.items
    → IsSpent a.number old next → WakerDid call old next → live_item w c.pasts.wakers ≡ Some a.task
    → new ≡ record i { tasks = new.tasks; wakers = new.wakers } → Represents new settings (calling c (waker_spent w call c.pasts)) (kept ++ []) sent
waker_went i new settings c kept sent w place a call old next stands stood live is put gone spent did told whole =
    let now = record i { tasks = new.tasks; wakers = new.wakers } in
    let held = stands.holds.tasks_are in
    let spent_now : Pasts = record (task_called a.task (call ∷ []) c.pasts) { wakers = with_item w None c.pasts.wakers } in
    let calls : waker_spent w call c.pasts ≡ spent_now = ap (λ (ps : Pasts). record ps { wakers = with_item w None c.pasts.wakers }) (waker_calls w a.task call c.pasts told) in
    let woken : woken_by (with_item w None i.wakers.items) ≡ with_item w None c.pasts.wakers = set-map (option_map (λ (b : WakerItem). b.task)) i.wakers.items (w - 1) None ∙ ap (with_item w None) held.wakers_are in
    subst (λ (j : Interpreter). Represents j settings (calling c (waker_spent w call c.pasts)) (kept ++ []) sent) (sym whole)
    (subst (λ (ps : Pasts). Represents now settings (calling c ps) (kept ++ []) sent) (sym calls)
    (untold now settings (record c { pasts = spent_now }) kept sent
    (went_on i now settings c spent_now kept sent stands
    (subst (λ (tasks : List TaskItem). Holds tasks new.wakers.items i.resources.items i.ops.items spent_now) (sym put)
    (subst (λ (wakers : List (Option WakerItem)). Holds (slice_set i.tasks.items place next) wakers i.resources.items i.ops.items spent_now) (sym gone) (record {
      tasks_are = record {
        tasks_are = tasks_called i.tasks.items place old next stood a.task is (one call ∷ []) (λ p h. did a.task p h) c.pasts.tasks held.tasks_are;
        wakers_are = woken;
        are_live = wakers_left i.tasks.items place old next i.wakers.items w a stood live is spent held.are_live;
      };
      resources_are = stands.holds.resources_are;
      ops_are = stands.holds.ops_are;
    })))
    (subst (λ (tasks : List TaskItem). TasksStay i.tasks.items tasks) (sym put) (tasks_stay i.tasks.items place old next stood spent.ledger spent.times))
    (resources_rest i.resources.items) (ops_rest i.ops.items) (tasks_numbered a.task (call ∷ []) c.pasts))))

-- a command that was a waker's last did what the call did
pub waker_ended : (i new : Interpreter) (line w place : ℕ) (a : WakerItem) (s : Said) (call : TaskCall) (old next : TaskItem)
    → slice_get i.tasks.items place ≡ Some old → live_item w i.wakers.items ≡ Some a → a.task ≡ place + 1 → new.tasks.items ≡ slice_set i.tasks.items place next → new.wakers.items ≡ with_item w None i.wakers.items
    → IsSpent a.number old next → WakerDid call old next
    → ((c : Course) → live_item w c.pasts.wakers ≡ Some a.task → stop_by_text c s ≡ None) → ((c : Course) → step c line s ≡ calling c (waker_spent w call c.pasts))
    → new ≡ record i { tasks = new.tasks; wakers = new.wakers } → SilentSpec line s i new (Ok tt)
waker_ended i new line w place a s call old next stood live is put gone spent did stops steps whole settings c kept sent stands =
    let told = woken_told i.wakers.items c.pasts.wakers w a stands.holds.tasks_are.wakers_are live in (
      stops c told,
      [],
      subst (λ (d : Course). Represents new settings d (kept ++ []) sent) (sym (steps c))
          (waker_went i new settings c kept sent w place a call old next stands stood live is put gone spent did told whole),
    )

-- ---- a waker more

-- the wakers stay live, and so is the one that was drawn
pub wakers_drawn : (tasks : List TaskItem) (place : ℕ) (old next : TaskItem) (wakers : List (Option WakerItem)) (a : WakerItem)
    → slice_get tasks place ≡ Some old → a.task ≡ place + 1 → Draws a.number old next → AreWakers tasks wakers → AreWakers (slice_set tasks place next) (wakers ++ Some a ∷ [])
wakers_drawn tasks place old next wakers a stood is draws are = record {
  live = λ v b now. live_now v b (live_more wakers a v b now);
  apart = λ v w b d v_now w_now task number. apart_now v w b d (live_more wakers a v b v_now) (live_more wakers a w d w_now) task number;
}
  where
    there : made_item a.task (slice_set tasks place next) ≡ Some next
    there = at_place a.task place (slice_set tasks place next) is ∙ get_put tasks place next (within tasks place old stood)

    live_now : (v : ℕ) (b : WakerItem) → (live_item v wakers ≡ Some b) ⊎ ((v ≡ length wakers + 1) × (b ≡ a))
        → (t : TaskItem) × (made_item b.task (slice_set tasks place next) ≡ Some t) × IsLive task_meaning t.callers.token.view b.number
    live_now v b (inl before) = (wakers_stay tasks place old next stood wakers draws.goes_on are).live v b before
    live_now v b (inr last) = (next, ap (λ (d : WakerItem). made_item d.task (slice_set tasks place next)) last.1 ∙ there, subst (λ (d : WakerItem). IsLive task_meaning next.callers.token.view d.number) (sym last.1) draws.is_live)

    -- who was live before is another than the one that was drawn
    is_other : (v : ℕ) (b : WakerItem) → live_item v wakers ≡ Some b → b.task ≡ a.task → b.number ≡ a.number → ⊥
    is_other v b before task number =
        let was = are.live v b before in
        let stands : Some was.0 ≡ Some old = sym was.1 ∙ (at_place b.task place tasks (task ∙ is) ∙ stood) in
        let the_task : was.0 ≡ old = cc in
        draws.is_new b.number (subst (λ (t : TaskItem). IsLive task_meaning t.callers.token.view b.number) the_task was.2) number

    apart_now : (v w : ℕ) (b d : WakerItem) → (live_item v wakers ≡ Some b) ⊎ ((v ≡ length wakers + 1) × (b ≡ a)) → (live_item w wakers ≡ Some d) ⊎ ((w ≡ length wakers + 1) × (d ≡ a)) → b.task ≡ d.task → b.number ≡ d.number → v ≡ w
    apart_now v w b d (inl v_was) (inl w_was) task number = are.apart v w b d v_was w_was task number
    apart_now v w b d (inl v_was) (inr w_last) task number = absurd (is_other v b v_was (task ∙ ap (λ (e : WakerItem). e.task) w_last.1) (number ∙ ap (λ (e : WakerItem). e.number) w_last.1))
    apart_now v w b d (inr v_last) (inl w_was) task number = absurd (is_other w d w_was (sym task ∙ ap (λ (e : WakerItem). e.task) v_last.1) (sym number ∙ ap (λ (e : WakerItem). e.number) v_last.1))
    apart_now v w b d (inr v_last) (inr w_last) task number = v_last.0 ∙ sym w_last.0

-- a waker was drawn of a task
pub drawn_went : (i new : Interpreter) (settings : Settings) (c : Course) (kept : List Bool) (sent : List Sending) (n place : ℕ) (old next : TaskItem) (a : WakerItem) → Represents i settings c kept sent
    → slice_get i.tasks.items place ≡ Some old → n ≡ place + 1 → a.task ≡ place + 1 → Draws a.number old next → new.tasks.items ≡ slice_set i.tasks.items place next → new.wakers.items ≡ i.wakers.items ++ Some a ∷ []
    → new ≡ record i { tasks = new.tasks; wakers = new.wakers } → Represents new settings (calling c (waker_drawn n c.pasts)) (kept ++ []) sent
drawn_went i new settings c kept sent n place old next a stands stood is task draws put more whole =
    let now = record i { tasks = new.tasks; wakers = new.wakers } in
    let held = stands.holds.tasks_are in
    let ps : Pasts = waker_drawn n c.pasts in
    let woken : woken_by (i.wakers.items ++ Some a ∷ []) ≡ c.pasts.wakers ++ Some n ∷ [] =
    map-append (option_map (λ (b : WakerItem). b.task)) i.wakers.items (Some a ∷ []) ∙ (ap (λ l. l ++ Some a.task ∷ []) held.wakers_are ∙ ap (λ (m : ℕ). c.pasts.wakers ++ Some m ∷ []) (task ∙ sym is)) in
    subst (λ (j : Interpreter). Represents j settings (calling c (waker_drawn n c.pasts)) (kept ++ []) sent) (sym whole)
    (untold now settings (record c { pasts = ps }) kept sent
    (went_on i now settings c ps kept sent stands
    (subst (λ (tasks : List TaskItem). Holds tasks new.wakers.items i.resources.items i.ops.items ps) (sym put)
    (subst (λ (wakers : List (Option WakerItem)). Holds (slice_set i.tasks.items place next) wakers i.resources.items i.ops.items ps) (sym more) (record {
      tasks_are = record {
        tasks_are = tasks_called i.tasks.items place old next stood n is (one CloneWaker ∷ []) (λ p h. draws.did n p h) c.pasts.tasks held.tasks_are;
        wakers_are = woken;
        are_live = wakers_drawn i.tasks.items place old next i.wakers.items a stood task draws held.are_live;
      };
      resources_are = stands.holds.resources_are;
      ops_are = stands.holds.ops_are;
    })))
    (subst (λ (tasks : List TaskItem). TasksStay i.tasks.items tasks) (sym put) (tasks_stay i.tasks.items place old next stood draws.goes_on.ledger draws.goes_on.times))
    (resources_rest i.resources.items) (ops_rest i.ops.items) (tasks_numbered n (CloneWaker ∷ []) c.pasts)))

-- a command that draws a waker of a task did what the draw did, where this is what the text tells of it
pub record DrawsAt (i : Interpreter) (line n : ℕ) (s : Said) (c : Course) : Type 0 where
  pub past : TaskPast
  pub goes : stop_by_text c s ≡ None
  pub steps : step c line s ≡ calling c (waker_drawn n c.pasts)
  pub takes_memory : StopByEnvironment c s Memory
  pub is : made_item n c.pasts.tasks ≡ Some past
  pub may_fail : IsReply task_meaning (Some past.opening) CloneWaker HandlesSpent → StopByEnvironment c s (Call HandlesSpent)

pub draw_did : (i new : Interpreter) (line n place : ℕ) (s : Said) (result : Result (Unit {0}) Stop) → n ≡ place + 1 → DrawsWaker i place new result
    → ((settings : Settings) (c : Course) (kept : List Bool) (sent : List Sending) → Represents i settings c kept sent → DrawsAt i line n s c)
    → SilentSpec line s i new result
draw_did i new line n place s (Ok done) is draws at settings c kept sent stands =
    let told = at settings c kept sent stands in
    let waker : WakerItem = record { task = place + 1; number = draws.2 } in (
      told.goes,
      [],
      subst (λ (d : Course). Represents new settings d (kept ++ []) sent) (sym told.steps)
          (drawn_went i new settings c kept sent n place draws.0 draws.1 waker stands draws.3 is refl draws.4 draws.6 draws.7 draws.5),
    )
draw_did i new line n place s (Err why) is (inl memory) at settings c kept sent stands =
    inr (subst (λ (w : Stop). StopByEnvironment c s w) (sym memory) (at settings c kept sent stands).takes_memory)
draw_did i new line n place s (Err why) is (inr refused) at settings c kept sent stands =
    let told = at settings c kept sent stands in
    let there = each_made IsTask c.pasts.tasks i.tasks.items n refused.1 stands.holds.tasks_are.tasks_are (at_place n place i.tasks.items is ∙ refused.2) in
    let past : Some there.0 ≡ Some told.past = sym there.1 ∙ told.is in
    let opening : there.0.opening ≡ told.past.opening = let same : there.0 ≡ told.past = cc in ap (λ (p : TaskPast). p.opening) same in
    inr (subst (λ (w : Stop). StopByEnvironment c s w) (sym refused.0)
    (told.may_fail (subst (λ row. IsReply task_meaning (Some row) CloneWaker HandlesSpent) opening (refused.3 n there.0 there.2))))
