use Rattle.std.proofs.Common.{◌≡◌, ◌∷◌, [], ◌++◌, drop}
use Rattle.tk_page.specs.Strips as spec
use Rattle.tk_page.proofs.strips.steps_of.Given as goal

-- with the steps that are left, the steps so far are all
abbrev pub invariant-loop-sample : goal.invariant-loop-sample
invariant-loop-sample l = l.steps.items ++ spec.steps_from l.before (drop l.sample-index l.samples ++ l.last ∷ []) ≡ spec.steps_of l.born l.samples l.last
