use Rattle.std.proofs.Common.{◌≡◌, take, length}
use Rattle.std.specs.Prelude.{filter}
use Rattle.tk_frame.specs.Queries.{is_shown}
use Rattle.tk_frame.proofs.ranks.shown_count.Given as goal

-- how many of the tasks so far are shown
abbrev pub invariant-loop-place : goal.invariant-loop-place
invariant-loop-place l = l.count ≡ length (filter (is_shown l.query) (take l.place l.tables.tasks))
