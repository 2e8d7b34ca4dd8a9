use Rattle.std.proofs.Common.{◌≡◌, ◌∙◌, ap, map}
use Rattle.std.specs.List.{insert}
use Rattle.tk_frame.specs.Places.{row_of, rank}
use Rattle.tk_frame.proofs.PlaceLemmas.{map_put}
use Rattle.tk_frame.proofs.places.put_in.Goals as goal

pub returns : goal.returns
returns c =
    let items = c.args.list.now.items in
    let place = c.args.place in
    let at : c.rank-at.result ≡ rank (map row_of items) place.figures =
    c.rank-at.ensures.rank ∙ ap (λ xs. rank (map row_of xs) place.figures) c.deref.ensures.value in
    ap (map row_of) c.in_ok-insert.ensures.items
    ∙ map_put row_of items c.rank-at.result place
    ∙ ap (λ i. insert (map row_of items) i (row_of place)) at
