use Rattle.std.proofs.Common.{◌≡◌, ◌+◌, List, ℕ, nat_eq, refl, ap, subst, sym, ◌∙◌, arith}
use Rattle.std.specs.List.{IsDistinct}
use Rattle.std.proofs.lemmas.List.Sorted.{IsNonDecreasingBy-from_sort, list_any-IsPermutation}
use Rattle.std.proofs.lemmas.Map.Keys.{IsDistinct-IsPermutation}
use Rattle.tk_stream.specs.Tables.{task_id, is_among}
use Rattle.tk_client.specs.Changes.{is_one_of}
use Rattle.tk_client.proofs.IdLemmas.{turned}
use Rattle.tk_client.proofs.AbleLemmas.{places-are, rise-sorted, places-differ}
use Rattle.tk_client.proofs.NotedLemmas.{among-gone}
use Rattle.tk_client.proofs.change.places_among.Goals as goal

pub returns : goal.returns
returns c =
    let tasks = c.args.tables.now.tasks in
    let ids = c.args.ids.now.keys in
    let ps = c.sort_unstable.new.self.items in
    let found = c.in_ok-places.ensures.places in
    let distinct = c.in_ok-places.ensures.distinct in
    let moved = c.sort_unstable.ensures.permutation in
    let once : IsDistinct nat_eq ps =
    IsDistinct-IsPermutation nat_eq turned c.in_ok-places.places.items ps moved (subst (IsDistinct nat_eq) (sym found) (places-differ task_id tasks distinct ids c.in_ok-places.ensures.once)) in
    places-are (is_one_of ids) 0 tasks ps (rise-sorted ps (IsNonDecreasingBy-from_sort (λ p. p) ps c.sort_unstable.ensures.sorted) once)
    (λ i.
    ap (is_among ps) (let e : 0 + i ≡ i = omega arith in e)
    ∙ sym (list_any-IsPermutation (nat_eq i) c.in_ok-places.places.items ps moved)
    ∙ ap (λ qs. is_among qs i) found
    ∙ among-gone tasks distinct ids ids (λ id. refl) i)
