use Rattle.std.proofs.Common.{◌≡◌, Some, None, refl, sym, ◌∙◌}
use Rattle.tk_embed.proofs.timed.row_in.Goals as goal

pub returns-in-Some-clause-ok : goal.returns-in-Some-clause-ok
returns-in-Some-clause-ok c = (c.from_words.ensures c.in-Some.row).0 c.in-Some.is

pub returns-in-None-clause-err : goal.returns-in-None-clause-err
returns-in-None-clause-err c = (refl, λ row is. let both : None ≡ Some row = sym c.in-None.is ∙ (c.from_words.ensures row).1 is in absurd (cc))
