use Rattle.std.proofs.Common.{◌≡◌, ℕ, List, ◌++◌, take}
use Rattle.std.specs.Prelude.{flat_map}
use Rattle.tk_series.specs.Limited.{limited}
use Rattle.tk_sites.specs.Sites.{warned_entries}
use Rattle.tk_sites.specs.Site.{room}
use Rattle.tk_sites.specs.Sums.{plus}
use Rattle.tk_sites.specs.declared.sums.Sums.{Sums}
use Rattle.tk_sites.proofs.adding.add_warnings.Given as goal

-- the warnings so far are added
abbrev pub invariant-loop-warning : goal.invariant-loop-warning
invariant-loop-warning l = (before : List (List ℕ × Sums)) → l.initial.sites ≡ limited room plus before
    → l.sites ≡ limited room plus (before ++ flat_map (warned_entries l.tables) (take l.warning-index l.warnings))
