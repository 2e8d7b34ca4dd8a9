use Rattle.std.proofs.Common.{ap, ◌∙◌, cond}
use Rattle.std.specs.Prelude.{filter, map}
use Rattle.std.proofs.lemmas.List.{take_all}
use Rattle.tk_client.specs.Changing.{is_away}
use Rattle.tk_client.specs.Taking.{new_id}
use Rattle.tk_client.proofs.NotedLemmas.{came-next}
use Rattle.tk_client.proofs.change.came_by.Goals as goal

pub loop-info-preserved : goal.loop-info-preserved
loop-info-preserved c =
    c.in_ok-add_came.ensures
    ∙ came-next (is_away c.args.tables.now) c.args.infos.now c.loop-info.info-index c.info-item.result c.loop-info-test.true c.info-item.is c.loop-info.ids.items c.loop-info.invariant
