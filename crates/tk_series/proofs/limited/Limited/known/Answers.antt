use Rattle.std.proofs.Common.{ap, ◌∙◌, sym}
use Rattle.std.specs.Map.{lookup}
use Rattle.std.specs.Str.{bytes_eq}
use Rattle.tk_series.proofs.LimitedLemmas.{lookup-shown}
use Rattle.tk_series.proofs.limited.Limited.known.Goals as goal

pub returns-in-Some : goal.returns-in-Some
returns-in-Some g c =
    c.in-Some.ensures.value ∙ sym (lookup-shown c.args.labels.now c.self.inside.values.entries) ∙ ap (λ s. lookup (bytes_eq c.args.labels.now) s.first) c.self.view_is

pub returns-in-None : goal.returns-in-None
returns-in-None g c =
    c.in-None.ensures.value ∙ sym (lookup-shown c.args.labels.now c.self.inside.values.entries) ∙ ap (λ s. lookup (bytes_eq c.args.labels.now) s.first) c.self.view_is
