use Rattle.std.proofs.Common.{◌≡◌, [], ◌∷◌, drop, subst, ◌∙◌, ap}
use Rattle.tk_screen.specs.Texts.{Puts}
use Rattle.tk_screen.proofs.PutLemmas.{both}
use Rattle.tk_frame.specs.Lines.{heading}
use Rattle.tk_frame.specs.PlaceLines.{place_rows}
use Rattle.tk_frame.specs.Queries.{places_by, top_places}
use Rattle.tk_frame.proofs.place_lines.push_places.Goals as goal

pub returns : goal.returns
returns c =
    let from = c.args.page.from in
    let top_is : c.ranks_on.result.now ≡ drop from (top_places c.args.query.now c.args.page.to c.args.odd.now) =
    c.ranks_on.ensures ∙ ap (drop from) (c.items.ensures ∙ c.in_ok-top.ensures) in
    let columns : Puts c.args.lines.now.items c.push_heading.new.lines.items (heading _ ∷ []) =
    subst (λ t. Puts c.args.lines.now.items c.push_heading.new.lines.items (heading t ∷ [])) c.place_heading.ensures c.in_ok-push_heading.ensures in
    let rows : Puts c.push_heading.new.lines.items c.push_rows.new.lines.items (place_rows (places_by c.args.query.now.recent c.args.odd.now) c.args.chosen (drop from (top_places c.args.query.now c.args.page.to c.args.odd.now))) =
    subst (λ xs. Puts c.push_heading.new.lines.items c.push_rows.new.lines.items (place_rows (places_by c.args.query.now.recent c.args.odd.now) c.args.chosen xs)) top_is c.in_ok-push_rows.ensures in
    both columns (both rows c.in_ok-push_count.ensures)
