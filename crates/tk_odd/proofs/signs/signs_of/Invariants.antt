use Rattle.std.proofs.Common.{◌≡◌, take, []}
use Rattle.std.specs.Prelude.{fold}
use Rattle.tk_odd.specs.Findings.{with_task_signs}
use Rattle.tk_odd.proofs.signs.signs_of.Given as goal

-- the tasks so far are looked at
abbrev pub invariant-loop-place : goal.invariant-loop-place
invariant-loop-place l = l.signs ≡ fold (with_task_signs l.look.limits l.look.moment l.look.passed.now) [] (take l.place l.tables.tasks)
