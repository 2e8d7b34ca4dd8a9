-- What an event says, whatever ledger its item has.
use Rattle.std.specs.Prelude.{ℕ, Bool}
use Rattle.tk_events.specs.declared.event.Shown.{Shown}
use Rattle.tk_events.specs.declared.event.Shown.TheVariants.{MadeTask, MadeResource, MadeOp, Polled}
use Rattle.tk_ids.specs.declared.info.OpInfo.{OpInfo}
use Rattle.tk_ids.specs.declared.info.ResourceInfo.{ResourceInfo}
use Rattle.tk_ids.specs.declared.info.TaskInfo.{TaskInfo}

-- a new item's info, or a poll operation of a resource and whether it was ready
pub data Content : Type 0 where
  made_task : TaskInfo → Content
  made_resource : ResourceInfo → Content
  made_op : OpInfo → Content
  polled : ℕ → Bool → Content

-- what an event says
abbrev pub content_of : Shown → Content
content_of (MadeTask info ledger caller times) = made_task info
content_of (MadeResource info ledger caller) = made_resource info
content_of (MadeOp info ledger caller) = made_op info
content_of (Polled op) = polled op.resource op.ready
