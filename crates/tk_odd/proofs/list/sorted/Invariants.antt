use Rattle.std.proofs.Common.{◌≡◌, map, []}
use Rattle.std.specs.Prelude.{fold}
use Rattle.tk_odd.specs.Findings.{placed, put_in}
use Rattle.tk_odd.proofs.list.sorted.Given as goal

-- those so far are put in their places
abbrev pub invariant-loop-found : goal.invariant-loop-found
invariant-loop-found l = map placed l.list.items ≡ fold put_in [] (map placed l.yielded)
