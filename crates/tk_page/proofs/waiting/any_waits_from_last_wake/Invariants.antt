use Rattle.std.proofs.Common.{◌≡◌, take, false}
use Rattle.std.specs.List.{list_any}
use Rattle.tk_page.specs.Waiting.{waits_from_last_wake}
use Rattle.tk_page.proofs.waiting.any_waits_from_last_wake.Given as goal

-- it is so of none of the tasks so far
abbrev pub invariant-loop-place : goal.invariant-loop-place
invariant-loop-place l = list_any waits_from_last_wake (take l.place l.tables.tasks) ≡ false
