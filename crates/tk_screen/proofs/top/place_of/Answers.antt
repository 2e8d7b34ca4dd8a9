use Rattle.std.proofs.Common.{sym, ◌∙◌}
use Rattle.tk_screen.proofs.RankLemmas.{place_some, place_none}
use Rattle.tk_screen.proofs.top.place_of.Goals as goal

pub returns-in-Some-clause-found : goal.returns-in-Some-clause-found
returns-in-Some-clause-found c = place_some c.args.key c.in-Some.place c.args.items.now (sym c.first_below.ensures ∙ c.in-Some.is)

pub returns-in-None-clause-found : goal.returns-in-None-clause-found
returns-in-None-clause-found c = place_none c.args.key c.args.items.now (sym c.first_below.ensures ∙ c.in-None.is)
