use Rattle.std.proofs.Common.{take}
use Rattle.std.specs.Prelude.{flat_map}
use Rattle.tk_paper.specs.Pieces.{Writes}
use Rattle.tk_page.specs.Badges.{found_badge}
use Rattle.tk_page.proofs.badges.put_found_badges.Given as goal

-- the badges so far
abbrev pub invariant-loop-found : goal.invariant-loop-found
invariant-loop-found l = Writes l.initial.paper l.paper (flat_map (found_badge l.task) (take l.found-index l.findings))
