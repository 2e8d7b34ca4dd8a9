use Rattle.std.proofs.Common.{◌∙◌}
use Rattle.tk_series.proofs.SeriesLemmas.{copied}
use Rattle.tk_series.proofs.series.Series.copy.Goals as goal

pub returns : goal.returns
returns g c =
    copied g.V.Clone.is_clone g.met.V.Added.copies c.self.inside.values.entries c.in_ok-values.values.entries c.in_ok-values.ensures.cases ∙ c.self.view_is
