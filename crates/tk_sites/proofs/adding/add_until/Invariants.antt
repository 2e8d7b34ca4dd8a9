use Rattle.std.proofs.Common.{◌≡◌, ℕ, List}
use Rattle.tk_series.specs.Limited.{limited}
use Rattle.tk_sites.specs.Sites.{until_entry}
use Rattle.tk_sites.specs.Site.{room}
use Rattle.tk_sites.specs.Sums.{plus}
use Rattle.tk_sites.specs.declared.sums.Sums.{Sums}
use Rattle.tk_series.proofs.FoldLemmas.{so_far}
use Rattle.tk_sites.proofs.adding.add_until.Given as goal

-- the tasks so far are added
abbrev pub invariant-loop-place : goal.invariant-loop-place
invariant-loop-place l = (before : List (List ℕ × Sums)) → l.initial.sites ≡ limited room plus before → l.sites ≡ so_far room plus (until_entry l.tables.now) before l.tables.tasks l.place
