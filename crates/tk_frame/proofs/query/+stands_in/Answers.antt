use Rattle.std.proofs.Common.{sym, ◌∙◌}
use Rattle.tk_frame.proofs.WalkLemmas.{begins_stands}
use Rattle.tk_frame.proofs.query.+stands_in.Goals as goal

pub returns-then-begins : goal.returns-then-begins
returns-then-begins t c = sym (begins_stands c.args.part.now c.args.text.now (sym c.begins.ensures ∙ c.if-begins.true))
