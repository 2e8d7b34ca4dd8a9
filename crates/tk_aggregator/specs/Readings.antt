-- What a handle that reads tells of a row.
use Rattle.std.specs.Prelude.{◌≡◌, List, [], ◌∷◌, ◌++◌, Some}
use mathlib.Core.List.{IsPrefix}
use Rattle.tk_core.specs.declared.history.Entry.{Entry}
use Rattle.tk_core.specs.declared.op.row.OpRow.{OpRow}
use Rattle.tk_core.specs.declared.op.call.OpCall.{OpCall}
use Rattle.tk_core.specs.declared.op.call.OpCall.TheVariants as op_calls
use Rattle.tk_core.specs.declared.reply.Reply.{Reply}
use Rattle.tk_core.specs.declared.reply.Reply.TheVariants.{Shown}
use Rattle.tk_core.specs.declared.resource.row.ResourceRow.{ResourceRow}
use Rattle.tk_core.specs.declared.resource.call.ResourceCall.{ResourceCall}
use Rattle.tk_core.specs.declared.resource.call.ResourceCall.TheVariants as resource_calls
use Rattle.tk_core.specs.declared.task.row.TaskRow.{TaskRow}
use Rattle.tk_core.specs.declared.task.call.TaskCall.{TaskCall}
use Rattle.tk_core.specs.declared.task.call.TaskCall.TheVariants as task_calls
use Rattle.tk_core.specs.Fold.{Kind, fold_of}
use Rattle.tk_core.specs.Legal.{IsLegal}
use Rattle.tk_core.specs.Meaning.{Meaning}
use Rattle.tk_core.specs.Op.{op_kind}
use Rattle.tk_core.specs.OpMeaning.{op_meaning}
use Rattle.tk_core.specs.Resource.{resource_kind}
use Rattle.tk_core.specs.ResourceMeaning.{resource_meaning}
use Rattle.tk_core.specs.Task.{task_kind}
use Rattle.tk_core.specs.TaskMeaning.{task_meaning}
use Rattle.tk_cell.specs.Calls.{Calls, entry}
use Rattle.tk_cell.specs.Ours.{ours}
use Rattle.tk_ledgers.specs.Beside.{AllRead}
use Rattle.tk_ledgers.specs.Handles.{Sight}

-- how an item's ledger is read: what its histories mean, and the call that reads
pub record Ledger (Row C : Type 0) : Type 1 where
  pub kind : Kind Row C
  pub meaning : Meaning Row C (Reply Row)
  pub read : C

-- tasks
abbrev pub task_ledger : Ledger TaskRow TaskCall
task_ledger = record { kind = task_kind; meaning = task_meaning; read = task_calls.Read }

-- resources
abbrev pub resource_ledger : Ledger ResourceRow ResourceCall
resource_ledger = record { kind = resource_kind; meaning = resource_meaning; read = resource_calls.Read }

-- async operations
abbrev pub op_ledger : Ledger OpRow OpCall
op_ledger = record { kind = op_kind; meaning = op_meaning; read = op_calls.Read }

-- handles that read one after the other, each its row
abbrev pub EachReads : {Handle Row : Type 0} → (Handle → Row → Handle → Type 0) → List Handle → List Row → List Handle → Type 0
EachReads R [] [] [] = Unit {0}
EachReads R (s ∷ ss) (r ∷ rs) (t ∷ ts) = R s r t × EachReads R ss rs ts
EachReads R _ _ _ = ⊥

module _ {Row C : Type 0} (l : Ledger Row C) where
  -- one reading: the handle goes on as the same one, and made one entry, whose reply shows the row
  pub record Reads (old : Sight Row C (Reply Row)) (row : Row) (new : Sight Row C (Reply Row)) : Type 0 where
    pub id : new.id ≡ old.id
    pub ledger : new.token.ledger ≡ old.token.ledger
    pub entry : Calls l.meaning old.token.view l.read (Shown row) new.token.view

  -- a row that a handle read last: the fold of a legal history, which the handle has seen, and which its reading ends
  pub record IsRead (handle : Sight Row C (Reply Row)) (row : Row) : Type 0 where
    pub opening : Row
    pub opened : handle.token.view.opening ≡ Some opening
    pub history : List (Entry C (Reply Row))
    pub seen : handle.token.view.seen ≡ history ++ entry handle.token.view.caller l.read (Shown row) ∷ []
    pub legal : IsLegal l.meaning opening handle.token.view.seen
    pub fold : row ≡ fold_of l.kind opening history

  -- a handle that has only read: it is the first that was drawn of its ledger, and holds no other's number
  pub record OnlyReads (handle : Sight Row C (Reply Row)) : Type 0 where
    pub held : handle.token.view.held ≡ 1 ∷ []
    pub reads : AllRead l.meaning l.read (ours handle.token.view)

  -- readings of all handles, each with its row
  abbrev pub ReadAll : List (Sight Row C (Reply Row)) → List Row → List (Sight Row C (Reply Row)) → Type 0
  ReadAll = EachReads Reads

module _ {Row C : Type 0} where
  -- the same handle, now or later: it has seen as much, or more
  pub record IsLater (old new : Sight Row C (Reply Row)) : Type 0 where
    pub id : new.id ≡ old.id
    pub ledger : new.token.ledger ≡ old.token.ledger
    pub caller : new.token.view.caller ≡ old.token.view.caller
    pub opening : new.token.view.opening ≡ old.token.view.opening
    pub seen : IsPrefix old.token.view.seen new.token.view.seen

  -- handles that begin with these, now or later, in order
  abbrev pub AreLater : List (Sight Row C (Reply Row)) → List (Sight Row C (Reply Row)) → Type 0
  AreLater [] new = Unit {0}
  AreLater (s ∷ ss) [] = ⊥
  AreLater (s ∷ ss) (t ∷ ts) = IsLater s t × AreLater ss ts
