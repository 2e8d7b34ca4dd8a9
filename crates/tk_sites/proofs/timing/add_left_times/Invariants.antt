use Rattle.std.proofs.Common.{◌≡◌, ℕ, List}
use Rattle.tk_series.specs.Limited.{limited}
use Rattle.tk_series.proofs.FoldLemmas.{so_far}
use Rattle.tk_sites.specs.Site.{room}
use Rattle.tk_sites.specs.TimedSites.{left_times}
use Rattle.tk_sites.specs.Times.{plus_times}
use Rattle.tk_sites.specs.declared.times.SiteTimes.{SiteTimes}
use Rattle.tk_sites.proofs.timing.add_left_times.Given as goal

-- those so far are added
abbrev pub invariant-loop-one : goal.invariant-loop-one
invariant-loop-one l = (before : List (List ℕ × SiteTimes)) → l.initial.sites ≡ limited room plus_times before → l.sites ≡ so_far room plus_times left_times before l.tasks l.one-index
