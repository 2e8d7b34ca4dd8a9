use Rattle.std.proofs.Common.{take}
use Rattle.std.specs.Prelude.{flat_map}
use Rattle.tk_paper.specs.Pieces.{Writes}
use Rattle.tk_page.specs.Banner.{alarm_if}
use Rattle.tk_page.proofs.banner.put_alarms.Given as goal

-- the banners so far
abbrev pub invariant-loop-found : goal.invariant-loop-found
invariant-loop-found l = Writes l.initial.paper l.paper (flat_map (alarm_if l.tables.now l.waiting l.tables.tasks) (take l.found-index l.findings))
