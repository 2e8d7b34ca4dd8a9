use Rattle.std.proofs.Common.{◌≡◌, false, take}
use Rattle.std.specs.List.{list_any}
use Rattle.tk_report.specs.Known.{is_untimed}
use Rattle.tk_report.proofs.known.are_untimed.Given as goal

-- none so far
abbrev pub invariant-loop-place : goal.invariant-loop-place
invariant-loop-place l = list_any (is_untimed l.times) (take l.place l.tables.tasks) ≡ false
