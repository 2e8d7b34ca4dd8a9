use Rattle.std.proofs.Common.{◌≡◌, take}
use Rattle.tk_stream.specs.Tables.{staying}
use Rattle.tk_stream.specs.Times.{times_id}
use Rattle.tk_client.proofs.times.leave.Given as goal

-- those of the first tasks are gone
abbrev pub invariant-loop-id : goal.invariant-loop-id
invariant-loop-id l = l.times ≡ staying times_id (take l.id-index l.gone) l.fn.times
