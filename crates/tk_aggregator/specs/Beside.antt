-- Readings of one item, beside the hand that holds its other callers.
use Rattle.std.specs.Prelude.{◌≡◌, ℕ, ◌<◌, ◌≤◌, List, [], ◌∷◌, length, All, Option, Some, None, slice_get, slice_set}
use Rattle.std.specs.List.{AllByRecursion}
use Rattle.tk_core.specs.declared.op.row.OpRow.{OpRow}
use Rattle.tk_core.specs.declared.op.call.OpCall.{OpCall}
use Rattle.tk_core.specs.declared.reply.Reply.{Reply}
use Rattle.tk_core.specs.declared.resource.row.ResourceRow.{ResourceRow}
use Rattle.tk_core.specs.declared.resource.call.ResourceCall.{ResourceCall}
use Rattle.tk_core.specs.declared.task.row.TaskRow.{TaskRow}
use Rattle.tk_core.specs.declared.task.call.TaskCall.{TaskCall}
use Rattle.tk_core.specs.Meaning.{Meaning}
use Rattle.tk_core.specs.OpMeaning.{op_meaning}
use Rattle.tk_core.specs.ResourceMeaning.{resource_meaning}
use Rattle.tk_core.specs.TaskMeaning.{task_meaning}
use Rattle.tk_events.specs.Buffer.{IsNamed}
use Rattle.tk_events.specs.Handles.{Recording, Taking, dropped_by}
use Rattle.tk_events.specs.Offers.{by}
use Rattle.tk_events.specs.declared.event.Event.{Event}
use Rattle.tk_ledgers.specs.Called.{HasCalled}
use Rattle.tk_ledgers.specs.Callers.{IsLive}
use Rattle.tk_ledgers.specs.Handles.{Sight}
use Rattle.tk_ledgers.specs.Ops.{OpSight}
use Rattle.tk_ledgers.specs.Resources.{ResourceSight}
use Rattle.tk_ledgers.specs.Tasks.{TaskSight}
use Rattle.tk_stream.specs.Fronts.{task_at, resource_at, op_at}
use Rattle.tk_stream.specs.Places.{place_with}
use Rattle.tk_stream.specs.Tables.{task_id, resource_id, op_id, changed_at}
use Rattle.tk_aggregator.specs.Aggregates.{Aggregating, Gathers, TellsTotals, dropped_in}
use Rattle.tk_aggregator.specs.Readings.{Ledger, task_ledger, resource_ledger, op_ledger, Reads, OnlyReads}

module _ {Row C : Type 0} (m : Meaning Row C (Reply Row)) where
  -- readers of an item with the hand's id are of the hand's ledger
  abbrev pub AreOf : Sight Row C (Reply Row) → List (Sight Row C (Reply Row)) → Type 0
  AreOf hand readers = AllByRecursion (λ (s : Sight Row C (Reply Row)). s.id ≡ hand.id → s.token.ledger ≡ hand.token.ledger) readers

  -- a hand is as it was: of the same item and ledger, with the same live callers, and it has called what it had
  pub record StaysHand (old new : Sight Row C (Reply Row)) : Type 0 where
    pub id : new.id ≡ old.id
    pub ledger : new.token.ledger ≡ old.token.ledger
    pub live : (k : ℕ) → IsLive m old.token.view k → IsLive m new.token.view k
    pub called : (opening : Row) (calls : List C) → HasCalled m (1 ∷ []) opening calls old.token.view → HasCalled m (1 ∷ []) opening calls new.token.view

  -- a row is that after all calls of a hand
  abbrev pub IsAfter : Sight Row C (Reply Row) → Row → Type 0
  IsAfter hand row = (opening : Row) (calls : List C) → HasCalled m (1 ∷ []) opening calls hand.token.view → row ≡ m.row_after opening calls

-- a reader read beside a hand: it read, and where it has done nothing else before, the row is that after the hand's calls, which stay
pub record ReadsBeside {Row C : Type 0} (l : Ledger Row C) (hand reader : Sight Row C (Reply Row)) (row : Row) (hand_then read : Sight Row C (Reply Row)) : Type 0 where
  pub reading : Reads l reader row read
  pub id : hand_then.id ≡ hand.id
  pub ledger : hand_then.token.ledger ≡ hand.token.ledger
  pub live : (k : ℕ) → IsLive l.meaning hand.token.view k → IsLive l.meaning hand_then.token.view k
  pub called : OnlyReads l reader → (opening : Row) (calls : List C) → HasCalled l.meaning (1 ∷ []) opening calls hand.token.view
      → HasCalled l.meaning (1 ∷ []) opening calls hand_then.token.view × (row ≡ l.meaning.row_after opening calls)

-- the reader at a place read this row; the other readers are as they were
abbrev pub ReadsAt : {Row C : Type 0} → Ledger Row C → ℕ → Row → List (Sight Row C (Reply Row)) → List (Sight Row C (Reply Row)) → Type 0
ReadsAt {Row = Row} {C = C} l place row old new = (reader read : Sight Row C (Reply Row)) × (slice_get old place ≡ Some reader) × Reads l reader row read × (new ≡ slice_set old place read)

-- a task was read beside a hand: where the tables have it, the row is that after the hand's calls, and nothing else changed; else nothing did
abbrev pub ReadsTaskBeside : TaskSight → Aggregating → Aggregating → Option ℕ → Type 0
ReadsTaskBeside hand old new None = new ≡ old
ReadsTaskBeside hand old new (Some place) = (row : TaskRow) × ReadsAt task_ledger place row old.tasks new.tasks × IsAfter task_meaning hand row
    × (new ≡ record old { tables = record old.tables { tasks = changed_at (λ t. task_at t row) old.tables.tasks place }; tasks = new.tasks })

-- a resource was read beside a hand: where the tables have it, the row is that after the hand's calls, and nothing else changed; else nothing did
abbrev pub ReadsResourceBeside : ResourceSight → Aggregating → Aggregating → Option ℕ → Type 0
ReadsResourceBeside hand old new None = new ≡ old
ReadsResourceBeside hand old new (Some place) = (row : ResourceRow) × ReadsAt resource_ledger place row old.resources new.resources × IsAfter resource_meaning hand row
    × (new ≡ record old { tables = record old.tables { resources = changed_at (λ r. resource_at r row) old.tables.resources place }; resources = new.resources })

-- an async operation was read beside a hand: where the tables have it, the row is that after the hand's calls, and nothing else changed; else nothing did
abbrev pub ReadsOpBeside : OpSight → Aggregating → Aggregating → Option ℕ → Type 0
ReadsOpBeside hand old new None = new ≡ old
ReadsOpBeside hand old new (Some place) = (row : OpRow) × ReadsAt op_ledger place row old.ops new.ops × IsAfter op_meaning hand row
    × (new ≡ record old { tables = record old.tables { ops = changed_at (λ o. op_at o row) old.tables.ops place }; ops = new.ops })

-- ---- taking events in, beside a recorder

-- the taker took all that this recorder kept, and each offer is one of a recorder of the console
pub record TookAll (r : Recording) (t : Taking) : Type 0 where
  pub all : by r.number t.taken ≡ r.kept
  pub named : All (IsNamed t.recorders) t.taken

-- a recorder that met the taker may know of more that was taken of it. Otherwise it is as it was
abbrev pub StaysRecorder : Recording → Recording → Type 0
StaysRecorder old new = new ≡ record old { gone = new.gone }

-- it knows that all that it kept was taken
abbrev pub KnowsAllTaken : Recording → Type 0
KnowsAllTaken r = r.gone ≡ length r.kept

-- `count` events were taken in, at most `limit`, and fewer only where all that the recorder kept was taken. None is held then; with limit 0
-- nothing changes
pub record GathersUpToBeside (r : Recording) (old : Aggregating) (before : Taking) (limit count : ℕ) (new : Aggregating) (after : Taking) : Type 0 where
  pub taken : List Event
  pub gathers : Gathers old before taken new after
  pub counts : length taken ≡ count
  pub within : count ≤ limit
  pub all : count < limit → TookAll r after
  pub none_held : 0 < limit → new.held ≡ None
  pub nothing : limit ≡ 0 → (new ≡ old) × (after ≡ before)

-- so many events were taken in beside a recorder, and then the totals are the taker's: exactly what the recorder dropped, where it is the
-- console's only one
pub record CollectsBeside (r : Recording) (old : Aggregating) (before : Taking) (limit count : ℕ) (new : Aggregating) (after : Taking) : Type 0 where
  pub gathered : Aggregating
  pub taker : Taking
  pub gathering : GathersUpToBeside r old before limit count gathered taker
  pub totals : TellsTotals taker after
  pub exact : before.recorders ≡ 1 → after.last ≡ dropped_by r
  pub now : new ≡ record gathered { tables = record gathered.tables { dropped = dropped_in after.last } }
