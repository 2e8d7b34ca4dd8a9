use Rattle.std.proofs.Common.{◌≡◌, take}
use Rattle.std.specs.Prelude.{fold}
use Rattle.tk_report.specs.Known.{with_known}
use Rattle.tk_report.specs.Watched.{known_at}
use Rattle.tk_report.proofs.known.Polls.completed.Given as goal

-- the tasks so far are there
abbrev pub invariant-loop-place : goal.invariant-loop-place
invariant-loop-place l = l.all ≡ fold (with_known (λ id. (known_at l.self.tasks.entries id).longest)) l.times (take l.place l.tables.tasks)
