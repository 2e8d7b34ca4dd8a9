use Rattle.std.proofs.Common.{◌≡◌, take}
use Rattle.tk_frame.specs.Walks.{tally}
use Rattle.tk_frame.proofs.ranks.states_in.Given as goal

-- the states of the tasks so far
abbrev pub invariant-loop-place : goal.invariant-loop-place
invariant-loop-place l = l.states ≡ tally (take l.place l.tables.tasks)
