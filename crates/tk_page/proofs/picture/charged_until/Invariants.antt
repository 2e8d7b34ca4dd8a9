use Rattle.std.proofs.Common.{◌≡◌, take}
use Rattle.tk_page.specs.Picture as spec
use Rattle.tk_page.proofs.picture.charged_until.Given as goal

-- up to the lines so far
abbrev pub invariant-loop-charge : goal.invariant-loop-charge
invariant-loop-charge l = l.sum ≡ spec.charged_until (take l.charge-index l.charges) l.moment
