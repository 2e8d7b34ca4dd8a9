use Rattle.std.proofs.Common.{◌≡◌, take}
use Rattle.tk_client.proofs.leaving.task_ids.Given as goal

abbrev pub invariant-loop-id : goal.invariant-loop-id
invariant-loop-id l = l.ids.items ≡ take l.id-index l.gone
