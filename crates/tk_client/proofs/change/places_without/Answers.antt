use Rattle.std.proofs.Common.{◌∙◌, ap, subst, ◌≤◌}
use Rattle.std.proofs.lemmas.List.{take_all}
use Rattle.tk_client.specs.Candidates.{places_by}
use Rattle.tk_client.specs.Changing.{is_beside}
use Rattle.tk_client.proofs.NotedLemmas.{places-next}
use Rattle.tk_client.proofs.change.places_without.Goals as goal

pub loop-place-preserved : goal.loop-place-preserved
loop-place-preserved c =
    c.in_ok-add_place.ensures
    ∙ places-next (is_beside c.args.these.now.keys) c.args.tables.now.tasks c.loop-place.place c.loop-place.places.items c.loop-place.invariant

pub returns : goal.returns
returns c =
    c.loop-place.invariant
    ∙ ap (places_by (is_beside c.args.these.now.keys) 0) (take_all c.loop-place.place c.args.tables.now.tasks (subst (λ n. n ≤ c.loop-place.place) c.task_count-place-end.ensures.count c.loop-place-test.false))
