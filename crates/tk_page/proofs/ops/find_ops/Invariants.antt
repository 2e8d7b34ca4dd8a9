use Rattle.std.proofs.Common.{◌≡◌, take, map, filter}
use Rattle.tk_page.specs.Items as spec
use Rattle.tk_page.proofs.ops.find_ops.Given as goal

-- those found so far
abbrev pub invariant-loop-place : goal.invariant-loop-place
invariant-loop-place l = map (λ o. o.now) l.found.items ≡ filter (spec.is_of l.resource l.is_open) (take l.place l.tables.ops)
