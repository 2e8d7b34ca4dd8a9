use Rattle.std.proofs.Common.{◌≡◌, drop}
use Rattle.std.specs.List.{list_any}
use Rattle.tk_stream.specs.Lines.{times_of}
use Rattle.tk_stream.specs.Times.{TaskTimes, times_id}
use Rattle.tk_client.specs.Meaning.{base_of}
use Rattle.tk_client.specs.Taking.{is_strange_task, strange_times}
use Rattle.tk_client.proofs.times.has_stranger.Given as goal

-- what is left decides
abbrev pub invariant-loop-id : goal.invariant-loop-id
invariant-loop-id l =
    list_any (λ (t : TaskTimes). is_strange_task (base_of l.shown l.line) l.line.new_tasks (times_id t)) (drop l.id-index (times_of l.line))
    ≡ strange_times (base_of l.shown l.line) l.line
