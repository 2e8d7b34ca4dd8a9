use Rattle.std.proofs.Common.{take}
use Rattle.std.specs.Prelude.{flat_map}
use Rattle.tk_paper.specs.Pieces.{Writes}
use Rattle.tk_page.specs.Sites.{site_row_at}
use Rattle.tk_page.proofs.sites.put_sites_at.Given as goal

-- the rows so far
abbrev pub invariant-loop-rank : goal.invariant-loop-rank
invariant-loop-rank l = Writes l.initial.paper l.paper (flat_map (site_row_at l.times l.held l.sites.first) (take l.rank-index l.ranks))
