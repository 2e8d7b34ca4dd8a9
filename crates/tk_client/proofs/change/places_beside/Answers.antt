use Rattle.std.proofs.Common.{◌∙◌, ap}
use Rattle.std.specs.Prelude.{map, not}
use Rattle.tk_client.specs.Changing.{is_beside}
use Rattle.tk_client.specs.Taking.{new_id}
use Rattle.tk_client.proofs.NotedLemmas.{places-same}
use Rattle.tk_client.proofs.change.places_beside.Goals as goal

pub returns : goal.returns
returns c =
    c.in_ok-places.ensures
    ∙ places-same (is_beside c.in_ok-these.these.keys) (is_beside (map new_id c.args.infos.now)) 0 c.args.tables.now.tasks (λ t. ap not (c.in_ok-these.ensures t.info.id))
