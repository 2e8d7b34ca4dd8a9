use Rattle.std.proofs.Common.{[], ◌∷◌, ◌∙◌, subst}
use Rattle.tk_metrics.specs.Places.{Gets}
use Rattle.tk_metrics.proofs.keeping.put_now.Goals as goal

pub returns-in-Ok-put : goal.returns-in-Ok-put
returns-in-Ok-put g c = λ by shown timed last f.
    subst (λ text. Gets (g.P.Place.texts c.args.place.now) (g.P.Place.texts c.put.new.self) ((c.args.path.now, text) ∷ []))
    (c.as_slice.ensures.value ∙ c.in-Ok.ensures by shown timed last f) c.in-Ok-put.ensures
