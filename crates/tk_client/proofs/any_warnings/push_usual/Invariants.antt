use Rattle.std.proofs.Common.{◌≡◌, ◌++◌, take}
use Rattle.std.specs.Prelude.{map}
use Rattle.tk_client.specs.declared.any_warnings.AnyWarning.TheVariants.{Usual}
use Rattle.tk_client.proofs.any_warnings.push_usual.Given as goal

-- the warnings so far were added
abbrev pub invariant-loop-warning : goal.invariant-loop-warning
invariant-loop-warning l = l.list.items ≡ l.initial.list.items ++ map Usual (take l.warning-index l.warnings)
