use Rattle.std.proofs.Common.{◌≡◌, take, map, []}
use Rattle.std.specs.Prelude.{fold}
use Rattle.tk_odd.specs.Findings.{with_running}
use Rattle.tk_odd.proofs.list.running.Given as goal

-- those so far
abbrev pub invariant-loop-place : goal.invariant-loop-place
invariant-loop-place l = map (λ v. v.items) l.places.items ≡ fold (with_running l.long l.tables.now) [] (take l.place l.tables.tasks)
