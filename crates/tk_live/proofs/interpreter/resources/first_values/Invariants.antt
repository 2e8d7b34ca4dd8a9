use Rattle.std.proofs.Common.{◌≡◌, take}
use Rattle.tk_events.specs.Items.{first_values}
use Rattle.tk_live.proofs.interpreter.resources.first_values.Given as goal

abbrev pub invariant-loop-attr : goal.invariant-loop-attr
invariant-loop-attr l = l.values.items ≡ first_values (take l.attr-index l.attr-items)
