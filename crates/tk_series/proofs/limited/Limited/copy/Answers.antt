use Rattle.std.proofs.Common.{◌∙◌, ap}
use Rattle.tk_series.proofs.LimitedLemmas.{of_values}
use Rattle.tk_series.proofs.SeriesLemmas.{copied}
use Rattle.tk_series.proofs.limited.Limited.copy.Goals as goal

pub returns : goal.returns
returns g c =
    ap (of_values c.self.inside.room c.self.inside.rest)
    (copied g.V.Clone.is_clone g.met.V.Added.copies c.self.inside.values.entries c.in_ok-values.values.entries c.in_ok-values.ensures.cases)
    ∙ c.self.view_is
