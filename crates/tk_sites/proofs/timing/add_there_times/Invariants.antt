use Rattle.std.proofs.Common.{◌≡◌, ℕ, List}
use Rattle.tk_series.specs.Limited.{limited}
use Rattle.tk_series.proofs.FoldLemmas.{so_far}
use Rattle.tk_sites.specs.Site.{room}
use Rattle.tk_sites.specs.TimedSites.{there_times}
use Rattle.tk_sites.specs.Times.{plus_times}
use Rattle.tk_sites.specs.declared.times.SiteTimes.{SiteTimes}
use Rattle.tk_sites.proofs.timing.add_there_times.Given as goal

-- those of the tasks so far are added
abbrev pub invariant-loop-place : goal.invariant-loop-place
invariant-loop-place l = (before : List (List ℕ × SiteTimes)) → l.initial.sites ≡ limited room plus_times before
    → l.sites ≡ so_far room plus_times (there_times l.times) before l.tables.tasks l.place
