use Rattle.std.proofs.Common.{ap, ◌∙◌}
use Rattle.tk_until.specs.Held.{HeldView, left_until}
use Rattle.tk_until.proofs.LeftLemmas.{new_left}
use Rattle.tk_until.proofs.until.Until.new.Goals as goal

pub returns-clause-front : goal.returns-clause-front
returns-clause-front g c = λ remaining. ap (λ (v : HeldView). left_until c.args.until v remaining) c.new-held.ensures ∙ new_left c.args.until remaining
