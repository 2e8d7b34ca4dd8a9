-- What an interpreter stands for after a command that calls on one item.
use Rattle.std.proofs.Common.{◌≡◌, ◌⊎◌, ℕ, ◌-◌, Bool, true, false, cond, List, [], ◌∷◌, ◌++◌, length, Option, Some, None, inl, inr, refl, sym, ap, ◌∙◌, subst}
use Rattle.std.specs.Prelude.{is_some}
use Rattle.std.specs.List.{AllByRecursion}
use Rattle.std.specs.Option.{option_map_or}
use Rattle.std.proofs.lemmas.List.{append-nil}
use Rattle.atomic_table.specs.Seated.{TableId}
use Rattle.tk_events.specs.declared.event.Shown.{Shown}
use Rattle.tk_events.specs.declared.event.Shown.TheVariants.{MadeTask, MadeResource, MadeOp}
use Rattle.tk_events.specs.declared.item.Offer.{Offer}
use Rattle.tk_ledgers.specs.Ops.{OpSight}
use Rattle.tk_ledgers.specs.Resources.{ResourceSight}
use Rattle.tk_ledgers.specs.Tasks.{TaskSight}
use Rattle.tk_ledgers.specs.Times.{TimesSight}
use Rattle.tk_aggregator.specs.Aggregates.{Aggregating}
use Rattle.tk_aggregator.specs.Contents.{Content}
use Rattle.tk_stream.specs.Streams.{Sending}
use Rattle.tk_live.specs.Course.{Course}
use Rattle.tk_live.specs.Items.{EachFrom, Holds, times_ledger_of}
use Rattle.tk_live.specs.Named.{made_item, with_item}
use Rattle.tk_live.specs.Pasts.{Past, Pasts, and_called, called_at, unless_closed}
use Rattle.tk_live.specs.Runs.{Numbers, numbers_of, Offered, IsTaskLedger, IsTimesLedger, IsResourceLedger, IsOpLedger, OffersLedger, AreLinked, Represents}
use Rattle.tk_live.specs.Stops.{if_there}
use Rattle.tk_live.specs.declared.interpreter.Interpreter.{Interpreter}
use Rattle.tk_live.specs.declared.items.OpItem.{OpItem}
use Rattle.tk_live.specs.declared.items.ResourceItem.{ResourceItem}
use Rattle.tk_live.specs.declared.items.TaskItem.{TaskItem}
use Rattle.tk_script.specs.declared.settings.Settings.{Settings}
use Rattle.tk_script.specs.declared.stop.Stop.{Stop}
use Rattle.tk_script.specs.declared.stop.Stop.TheVariants.{NoSuchItem}
use Rattle.tk_live.proofs.Places.{length-set, each_made, each_unmade}

-- ---- what the text calls on the item of a number

pub called_put : {Row C : Type 0} (n : ℕ) (calls : List C) (ps : List (Past Row C)) (p : Past Row C) → made_item n ps ≡ Some p → called_at n calls ps ≡ with_item n (and_called calls p) ps
called_put {Row} {C} n calls ps p is = ap (λ (o : Option (Past Row C)). option_map_or (λ q. with_item n (and_called calls q) ps) o ps) is

pub length_called : {Row C : Type 0} (n : ℕ) (calls : List C) (ps : List (Past Row C)) → length (called_at n calls ps) ≡ length ps
length_called {Row} {C} n calls ps = go (made_item n ps)
  where
    go : (o : Option (Past Row C)) → length (option_map_or (λ q. with_item n (and_called calls q) ps) o ps) ≡ length ps
    go None = refl
    go (Some q) = length-set ps (n - 1) (and_called calls q)

-- ---- items that were made, and whether they are closed

module _ {P X : Type 0} (R : ℕ → P → X → Type 0) (shut : P → Bool) (closed : X → Bool) (same : (n : ℕ) (p : P) (x : X) → R n p x → closed x ≡ shut p) where
  -- what is kept open is open in the text
  pub open_there : (ps : List P) (xs : List X) (n : ℕ) (x : X) → EachFrom R 1 ps xs → made_item n xs ≡ Some x → closed x ≡ false → (p : P) × (made_item n ps ≡ Some p) × R n p x × (unless_closed shut (made_item n ps) ≡ Some p)
  open_there ps xs n x each made unshut =
      let there = each_made R ps xs n x each made in
      let open_is : shut there.0 ≡ false = sym (same n there.0 x there.2) ∙ unshut in
      (there.0, there.1, there.2, ap (unless_closed shut) there.1 ∙ ap (λ (b : Bool). cond b None (Some there.0)) open_is)

  -- what wasn't made, or is closed, isn't open there
  pub none_open : (ps : List P) (xs : List X) (n : ℕ) → EachFrom R 1 ps xs → (made_item n xs ≡ None) ⊎ ((x : X) × (made_item n xs ≡ Some x) × (closed x ≡ true)) → unless_closed shut (made_item n ps) ≡ None
  none_open ps xs n each (inl none) = ap (unless_closed shut) (each_unmade R ps xs n each none)
  none_open ps xs n each (inr found) =
      let there = each_made R ps xs n found.0 each found.1 in
      ap (unless_closed shut) there.1 ∙ ap (λ (b : Bool). cond b None (Some there.0)) (sym (same n there.0 found.0 there.2) ∙ found.2)

-- what is there stops nothing, and what isn't does
pub is_there : {X : Type 0} (o : Option X) (stop : Option Stop) → is_some o ≡ true → if_there o stop ≡ stop
is_there None stop e = absurd cc
is_there (Some x) stop e = refl

pub isnt_there : {X : Type 0} (o : Option X) (stop : Option Stop) → is_some o ≡ false → if_there o stop ≡ Some NoSuchItem
isnt_there None stop e = refl
isnt_there (Some x) stop e = absurd cc

-- ---- whose ledgers are read

-- each item stays at its number, of the same ledger
abbrev pub TasksStay : List TaskItem → List TaskItem → Type 0
TasksStay old new = (n : ℕ) (t : TaskItem) → made_item n old ≡ Some t → (u : TaskItem) × (made_item n new ≡ Some u) × (u.callers.token.ledger ≡ t.callers.token.ledger) × (times_ledger_of u ≡ times_ledger_of t)

abbrev pub ResourcesStay : List ResourceItem → List ResourceItem → Type 0
ResourcesStay old new = (n : ℕ) (t : ResourceItem) → made_item n old ≡ Some t → (u : ResourceItem) × (made_item n new ≡ Some u) × (u.callers.token.ledger ≡ t.callers.token.ledger)

abbrev pub OpsStay : List OpItem → List OpItem → Type 0
OpsStay old new = (n : ℕ) (t : OpItem) → made_item n old ≡ Some t → (u : OpItem) × (made_item n new ≡ Some u) × (u.callers.token.ledger ≡ t.callers.token.ledger)

pub tasks_rest : (tasks : List TaskItem) → TasksStay tasks tasks
tasks_rest tasks n t made = (t, made, refl, refl)

pub resources_rest : (resources : List ResourceItem) → ResourcesStay resources resources
resources_rest resources n t made = (t, made, refl)

pub ops_rest : (ops : List OpItem) → OpsStay ops ops
ops_rest ops n t made = (t, made, refl)

all_on : {X : Type 0} (P Q : X → Type 0) → ((x : X) → P x → Q x) → (xs : List X) → AllByRecursion P xs → AllByRecursion Q xs
all_on P Q f [] all = tt
all_on P Q f (x ∷ xs) all = (f x all.0, all_on P Q f xs all.1)

module _ (tasks tasks_now : List TaskItem) (resources resources_now : List ResourceItem) (ops ops_now : List OpItem)
    (tasks_stay : TasksStay tasks tasks_now) (resources_stay : ResourcesStay resources resources_now) (ops_stay : OpsStay ops ops_now) where
  task_on : (id : ℕ) (ledger : TableId) → IsTaskLedger tasks id ledger → IsTaskLedger tasks_now id ledger
  task_on id ledger h = let there = tasks_stay h.0 h.1 h.3 in (h.0, there.0, h.2, there.1, there.2 ∙ h.4)

  times_on : (id : ℕ) (ledger : TableId) → IsTimesLedger tasks id ledger → IsTimesLedger tasks_now id ledger
  times_on id ledger h = let there = tasks_stay h.0 h.1 h.3 in (h.0, there.0, h.2, there.1, there.3 ∙ h.4)

  resource_on : (id : ℕ) (ledger : TableId) → IsResourceLedger resources id ledger → IsResourceLedger resources_now id ledger
  resource_on id ledger h = let there = resources_stay h.0 h.1 h.3 in (h.0, there.0, h.2, there.1, there.2 ∙ h.4)

  op_on : (id : ℕ) (ledger : TableId) → IsOpLedger ops id ledger → IsOpLedger ops_now id ledger
  op_on id ledger h = let there = ops_stay h.0 h.1 h.3 in (h.0, there.0, h.2, there.1, there.2 ∙ h.4)

  offer_on : (event : Shown) → OffersLedger tasks resources ops event → OffersLedger tasks_now resources_now ops_now event
  offer_on (MadeTask info ledger caller times) h = (task_on info.id ledger h.0, λ histogram of. times_on info.id histogram (h.1 histogram of))
  offer_on (MadeResource info ledger caller) h = resource_on info.id ledger h
  offer_on (MadeOp info ledger caller) h = op_on info.id ledger h
  offer_on event h = h

  -- what is linked stays so
  pub linked_on : (kept : List Offer) (a : Aggregating) → AreLinked tasks resources ops kept a → AreLinked tasks_now resources_now ops_now kept a
  linked_on kept a linked = record {
    offers = all_on (λ (o : Offer). OffersLedger tasks resources ops o.event) (λ (o : Offer). OffersLedger tasks_now resources_now ops_now o.event) (λ o h. offer_on o.event h) kept linked.offers;
    task_readers = all_on (λ (s : TaskSight). IsTaskLedger tasks s.id s.token.ledger) (λ (s : TaskSight). IsTaskLedger tasks_now s.id s.token.ledger) (λ s h. task_on s.id s.token.ledger h) a.tasks linked.task_readers;
    times_readers = all_on (λ (s : TimesSight). IsTimesLedger tasks s.id s.token.ledger) (λ (s : TimesSight). IsTimesLedger tasks_now s.id s.token.ledger) (λ s h. times_on s.id s.token.ledger h) a.timing.readers linked.times_readers;
    resource_readers = all_on (λ (s : ResourceSight). IsResourceLedger resources s.id s.token.ledger) (λ (s : ResourceSight). IsResourceLedger resources_now s.id s.token.ledger) (λ s h. resource_on s.id s.token.ledger h) a.resources linked.resource_readers;
    op_readers = all_on (λ (s : OpSight). IsOpLedger ops s.id s.token.ledger) (λ (s : OpSight). IsOpLedger ops_now s.id s.token.ledger) (λ s h. op_on s.id s.token.ledger h) a.ops linked.op_readers;
  }

-- ---- an interpreter whose items went on

-- nothing was recorded
pub unmarked : (i : Interpreter) (settings : Settings) (c : Course) (kept : List Bool) (sent : List Sending) → Represents i settings c kept sent → Represents i settings c (kept ++ []) sent
unmarked i settings c kept sent stands = subst (λ (m : List Bool). Represents i settings c m sent) (sym (append-nil kept)) stands

-- and nothing told
pub untold : (i : Interpreter) (settings : Settings) (c : Course) (kept : List Bool) (sent : List Sending) → Represents i settings c kept sent → Represents i settings (record c { told = c.told ++ [] }) (kept ++ []) sent
untold i settings c kept sent stands = subst (λ (told : List Content). Represents i settings (record c { told = told }) (kept ++ []) sent) (sym (append-nil c.told)) (unmarked i settings c kept sent stands)

-- items went on, as the text tells of them
pub went_on : (i new : Interpreter) (settings : Settings) (c : Course) (ps : Pasts) (kept : List Bool) (sent : List Sending) → Represents i settings c kept sent
    → Holds new.tasks.items new.wakers.items new.resources.items new.ops.items ps → TasksStay i.tasks.items new.tasks.items → ResourcesStay i.resources.items new.resources.items → OpsStay i.ops.items new.ops.items
    → numbers_of ps ≡ numbers_of c.pasts
    → Represents (record i { tasks = new.tasks; wakers = new.wakers; resources = new.resources; ops = new.ops }) settings (record c { pasts = ps }) kept sent
went_on i new settings c ps kept sent stands holds tasks_stay resources_stay ops_stay same = record {
  came = stands.came;
  rise = stands.rise;
  offered = subst (λ (n : Numbers). Offered i.recorder settings.capacity n c.told kept) (sym same) stands.offered;
  takes = stands.takes;
  taken = stands.taken;
  gone = stands.gone;
  has_told = stands.has_told;
  timed = stands.timed;
  holds = holds;
  linked = linked_on i.tasks.items new.tasks.items i.resources.items new.resources.items i.ops.items new.ops.items tasks_stay resources_stay ops_stay i.recorder.kept i.aggregator stands.linked;
  polled = stands.polled;
  capacity_said = stands.capacity_said;
  retention_said = stands.retention_said;
  times_said = stands.times_said;
  waits_said = stands.waits_said;
  begun = stands.begun;
  times_is = stands.times_is;
}

-- what stands after commands that call on one item: what the text calls on items, and nothing more
abbrev pub calling : Course → Pasts → Course
calling c ps = record c { pasts = ps; told = c.told ++ [] }
