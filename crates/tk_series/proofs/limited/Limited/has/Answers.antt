use Rattle.std.proofs.Common.{ap, is_some, sym, ◌∙◌}
use Rattle.tk_series.proofs.LimitedLemmas.{seen-lookup}
use Rattle.tk_series.proofs.limited.Limited.has.Goals as goal

pub returns : goal.returns
returns g c = c.is_some.ensures ∙ ap is_some c.known.ensures ∙ sym (seen-lookup c.args.labels.now c.args.self.now.first)
