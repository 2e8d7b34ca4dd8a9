use Rattle.std.proofs.Common.{◌≡◌, take, map, filter}
use Rattle.tk_page.specs.Idle as spec
use Rattle.tk_page.proofs.idle.find_awaited.Given as goal

-- those found so far
abbrev pub invariant-loop-place : goal.invariant-loop-place
invariant-loop-place l = map (λ o. o.now) l.found.items ≡ filter (spec.is_awaited_by l.task) (take l.place l.tables.ops)
