use Rattle.std.proofs.Common.{◌≡◌, ◌∙◌, ap, map}
use Rattle.std.specs.List.{insert}
use Rattle.indexmap.proofs.SetLemmas.{map-insert}
use Rattle.tk_odd.specs.Findings.{placed, rank}
use Rattle.tk_odd.proofs.list.put_in.Goals as goal

pub returns : goal.returns
returns c =
    let items = c.args.list.now.items in
    let found = c.args.found in
    let at : c.rank-place.result ≡ rank (map placed items) found.finding =
    c.rank-place.ensures.rank ∙ ap (λ xs. rank (map placed xs) found.finding) c.deref.ensures.value in
    ap (map placed) c.in_ok-insert.ensures.items
    ∙ map-insert placed items c.rank-place.result found
    ∙ ap (λ i. insert (map placed items) i (placed found)) at
