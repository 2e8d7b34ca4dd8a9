use Rattle.std.proofs.Common.{take}
use Rattle.std.specs.Prelude.{flat_map}
use Rattle.tk_paper.specs.Pieces.{Writes}
use Rattle.tk_page.specs.Cards.{card}
use Rattle.tk_page.proofs.cards.put_cards.Given as goal

-- the cards so far
abbrev pub invariant-loop-found : goal.invariant-loop-found
invariant-loop-found l = Writes l.initial.paper l.paper (flat_map (card l.scale l.long l.tables.tasks) (take l.found-index l.findings))
