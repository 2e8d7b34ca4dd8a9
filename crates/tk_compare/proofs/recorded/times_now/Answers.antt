use Rattle.std.proofs.Common.{◌≡◌, Some, None, true, ap₂, sym, ◌∙◌}
use Rattle.tk_series.specs.Limited.{LimitedView}
use Rattle.tk_sites.specs.TimedSites.{timed_sites}
use Rattle.tk_sites.specs.declared.times.SiteTimes.{SiteTimes}
use Rattle.tk_compare.proofs.recorded.times_now.Goals as goal

pub returns-in-Some : goal.returns-in-Some
returns-in-Some c = λ seen h.
    let all : LimitedView SiteTimes = timed_sites seen c.args.client.now.start.tables c.args.client.now.start.times in
    let same : Some c.in-Some.times ≡ Some all =
    sym c.in-Some.is ∙ c.in_ok-times.ensures true seen h ∙ ap₂ (λ t u. Some (timed_sites seen t u)) c.tables.ensures c.times.ensures in
    cc

pub returns-in-None : goal.returns-in-None
returns-in-None c = λ seen h.
    let all : LimitedView SiteTimes = timed_sites seen c.args.client.now.start.tables c.args.client.now.start.times in
    let none : None ≡ Some all =
    sym c.in-None.is ∙ c.in_ok-times.ensures true seen h ∙ ap₂ (λ t u. Some (timed_sites seen t u)) c.tables.ensures c.times.ensures in
    absurd (cc)
