use Rattle.std.proofs.Common.{OnOk, [], subst}
use Rattle.std.specs.Option.{option_map_or}
use Rattle.tk_paper.specs.Pieces.{Writes}
use Rattle.tk_page.specs.Sites.{full_row}
use Rattle.tk_page.proofs.sites.put_site_at.Goals as goal

pub returns-in-Some : goal.returns-in-Some
returns-in-Some c =
    subst (λ o. OnOk c.put_site.result (Writes c.args.paper.now c.put_site.new.paper (option_map_or (full_row c.args.times.now c.args.held.now c.args.place) o []))) c.in-Some.ensures (rw (c.known_at-known.ensures, c.held_for.ensures) at c.put_site.ensures)
