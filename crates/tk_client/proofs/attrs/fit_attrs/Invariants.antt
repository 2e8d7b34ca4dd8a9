use Rattle.std.proofs.Common.{◌≡◌, drop}
use Rattle.tk_client.specs.Taking.{fit_attrs}
use Rattle.tk_client.proofs.attrs.fit_attrs.Given as goal

-- what is left decides
abbrev pub invariant-loop-i : goal.invariant-loop-i
invariant-loop-i l = fit_attrs (drop l.i l.attrs) (drop l.i l.values) ≡ fit_attrs l.attrs l.values
