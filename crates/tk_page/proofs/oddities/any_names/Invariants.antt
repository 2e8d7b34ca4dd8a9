use Rattle.std.proofs.Common.{◌≡◌, false, take}
use Rattle.std.specs.List.{list_any}
use Rattle.tk_page.specs.Odd.{names}
use Rattle.tk_page.proofs.oddities.any_names.Given as goal

-- none of the findings so far names it
abbrev pub invariant-loop-found : goal.invariant-loop-found
invariant-loop-found l = list_any (names l.task) (take l.found-index l.findings) ≡ false
