use Rattle.std.proofs.Common.{◌≡◌, take}
use Rattle.std.specs.Prelude.{flat_map}
use Rattle.std.specs.Option.{option_to_list}
use Rattle.tk_client.specs.LongPolls.{long_poll_of}
use Rattle.tk_client.proofs.long_polls.long_polls_in.Given as goal

-- the long polls of the tasks so far
abbrev pub invariant-loop-place : goal.invariant-loop-place
invariant-loop-place l = l.list.items ≡ flat_map (λ t. option_to_list (long_poll_of l.limit_ms l.tables.now l.times t)) (take l.place l.tables.tasks)
