use Rattle.std.proofs.Common.{◌≡◌, ◌∷◌, [], ℕ, ap, sym, ◌∙◌, refl, arith, take, length, length-take}
use Rattle.tk_client.specs.Meaning.{cut, meaning}
use Rattle.tk_client.specs.Feeding.{ClientView}
use Rattle.tk_client.proofs.FeedLemmas.{cut-line}
use Rattle.tk_client.proofs.client.Client.step_whole.Goals as goal

pub returns-in-Ok-clause-step : goal.returns-in-Ok-clause-step
returns-in-Ok-clause-step g c =
    let old : ClientView = c.args.self.now in
    let line = take c.args.end c.args.bytes.now in (
      record {
        some = λ lt. omega arith;
        within = omega (arith, c.requires.inside);
        all = tt;
        line = (line, ap cut c.requires.through ∙ cut-line line c.requires.before);
        took = record { came = ap (meaning old.max_line old.start) c.requires.through ∙ c.in-Ok.ensures.ended.came; sound = c.in-Ok.ensures.ended.sound };
      },
      c.in-Ok.ensures.noted,
    )
