use Rattle.std.proofs.Common.{◌≡◌, ℕ, List}
use Rattle.tk_sites.specs.Adding.{left_as_shown}
use Rattle.tk_series.specs.Limited.{limited}
use Rattle.tk_sites.specs.Site.{room}
use Rattle.tk_sites.specs.Sums.{plus}
use Rattle.tk_sites.specs.declared.sums.Sums.{Sums}
use Rattle.tk_series.proofs.FoldLemmas.{so_far}
use Rattle.tk_sites.proofs.adding.add_left.Given as goal

-- those so far are added
abbrev pub invariant-loop-one : goal.invariant-loop-one
invariant-loop-one l = (before : List (List ℕ × Sums)) → l.initial.sites ≡ limited room plus before → l.sites ≡ so_far room plus left_as_shown before l.tasks l.one-index
