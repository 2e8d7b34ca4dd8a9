use Rattle.std.proofs.Common.{take}
use Rattle.std.specs.Prelude.{flat_map}
use Rattle.tk_paper.specs.Pieces.{Writes}
use Rattle.tk_page.specs.Badges.{row_badge}
use Rattle.tk_page.specs.Odd.{row_kinds}
use Rattle.tk_page.proofs.badges.put_row_badges.Given as goal

-- the badges so far
abbrev pub invariant-loop-kind : goal.invariant-loop-kind
invariant-loop-kind l = Writes l.initial.paper l.paper (flat_map (row_badge l.signs l.task) (take l.kind-index row_kinds))
