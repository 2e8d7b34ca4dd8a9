use Rattle.std.proofs.Common.{◌∙◌}
use Rattle.tk_stream.specs.declared.tables.task.Task.{Task}
use Rattle.tk_client.specs.Changes.{is_one_of}
use Rattle.tk_client.proofs.NotedLemmas.{places-same}
use Rattle.tk_client.proofs.change.places_gone.Goals as goal

pub returns : goal.returns
returns c =
    let gone = c.args.gone.now in
    let ids = c.in_ok-ids.ids.keys in
    c.in_ok-places.ensures ∙ places-same (is_one_of ids) (is_one_of gone) 0 c.args.tables.now.tasks (λ (t : Task). c.in_ok-ids.ensures t.info.id)
