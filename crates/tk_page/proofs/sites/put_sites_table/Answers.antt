use Rattle.std.proofs.Common.{◌≡◌, ℕ, List, [], ◌∷◌, ◌++◌, Option, length, take, subst}
use Rattle.std.specs.Prelude.{flat_map}
use Rattle.tk_paper.proofs.PutLemmas.{then}
use Rattle.tk_paper.specs.Escaping.{PaperView}
use Rattle.tk_paper.specs.Parts.{Bit, close}
use Rattle.tk_paper.specs.Pieces.{Writes}
use Rattle.tk_paper.specs.declared.marks.Tag.TheVariants as tags
use Rattle.tk_series.specs.Limited.{LimitedView}
use Rattle.tk_sites.specs.declared.sums.Sums.{Sums}
use Rattle.tk_sites.specs.declared.times.SiteTimes.{SiteTimes}
use Rattle.tk_page.specs.Charges.{Places}
use Rattle.tk_page.specs.Sites.{others_row, site_row_at, sites_caption, sites_columns, sites_table}
use Rattle.tk_page.specs.declared.ranks.Rank.{Rank}
use Rattle.tk_page.proofs.sites.put_sites_table.Goals as goal

-- the parts of the table are the table
is_table : (times : Option (LimitedView SiteTimes)) (held : Places) (sites : LimitedView Sums) (ranks shown : List Rank) (n : ℕ) (rest : Option Sums) (old new : PaperView)
    → shown ≡ take 200 ranks → n ≡ length sites.first → rest ≡ sites.rest
    → Writes old new (sites_caption ++ (sites_columns ++ (flat_map (site_row_at times held sites.first) shown ++ (others_row times n rest ++ close tags.Tbody ∷ close tags.Table ∷ close tags.Div ∷ []))))
    → Writes old new (sites_table times held sites ranks)
is_table times held sites ranks shown n rest old new by_ranks by_len by_rest wrote =
    let last : List Bit = close tags.Tbody ∷ close tags.Table ∷ close tags.Div ∷ [] in
    let row = site_row_at times held sites.first in
    subst (λ r. Writes old new (sites_caption ++ (sites_columns ++ (flat_map row (take 200 ranks) ++ (others_row times (length sites.first) r ++ last))))) by_rest
    (subst (λ m. Writes old new (sites_caption ++ (sites_columns ++ (flat_map row (take 200 ranks) ++ (others_row times m rest ++ last))))) by_len
    (subst (λ rs. Writes old new (sites_caption ++ (sites_columns ++ (flat_map row rs ++ (others_row times n rest ++ last))))) by_ranks wrote))

pub returns : goal.returns
returns c =
    is_table c.args.times.now c.args.held.now c.args.sites.now c.args.ranks.now c.front.result.now c.len.result c.rest.result c.args.paper.now c.put.new.self
    c.front.ensures c.len.ensures.len c.rest.ensures
    (then c.in_ok-put_sites_caption.ensures
    (then c.in_ok-put_sites_columns.ensures
    (then c.in_ok-put_sites_at.ensures
    (then c.in_ok-put_others.ensures c.in_ok-put.ensures))))
