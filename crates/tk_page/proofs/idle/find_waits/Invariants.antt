use Rattle.std.proofs.Common.{◌≡◌, take, map, filter}
use Rattle.tk_page.specs.Idle as spec
use Rattle.tk_page.proofs.idle.find_waits.Given as goal

-- those found so far
abbrev pub invariant-loop-place : goal.invariant-loop-place
invariant-loop-place l = map (λ o. o.now) l.found.items ≡ filter (spec.waits_at l.tables.tasks l.resource) (take l.place l.tables.ops)
