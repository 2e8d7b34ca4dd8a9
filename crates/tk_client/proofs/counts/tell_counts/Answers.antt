use Rattle.std.proofs.Common.{List, ap, sym, ◌∙◌, take, subst}
use Rattle.std.specs.Prelude.{IsSome, is_some}
use Rattle.tk_stream.specs.Tables.{TablesView, PollCounts, counts_id, item_with, put_item}
use Rattle.tk_client.proofs.KeyedLemmas.{told_next, none_told, still-there, all-at}
use Rattle.tk_client.proofs.counts.tell_counts.Goals as goal

pub loop-id-init : goal.loop-id-init
loop-id-init c =
    let tables : TablesView = c.args.tables.now in
    ap (λ (cs : List PollCounts). record tables { counts = cs }) (sym (none_told counts_id tables.counts))

pub replace-requires : goal.replace-requires
replace-requires c =
    let tables : TablesView = c.args.tables.now in
    let item : PollCounts = c.loop-id-item.result in
    subst (λ (t : TablesView). IsSome (item_with counts_id item.0 t.counts)) (sym c.loop-id.invariant)
    (still-there counts_id item.0 tables.counts (take c.loop-id.id-index c.args.told.now)
    (all-at (λ (x : PollCounts). is_some (item_with counts_id x.0 tables.counts)) c.args.told.now c.loop-id.id-index item c.requires.counted c.loop-id-test.true c.loop-id-item.is))

pub loop-id-preserved : goal.loop-id-preserved
loop-id-preserved c =
    let tables : TablesView = c.args.tables.now in
    let item : PollCounts = c.loop-id-item.result in
    c.replace.ensures
    ∙ ap (λ (v : TablesView). record v { counts = put_item counts_id item v.counts }) c.loop-id.invariant
    ∙ ap (λ (cs : List PollCounts). record tables { counts = cs })
    (told_next counts_id tables.counts c.args.told.now c.loop-id.id-index item c.task_count.ensures.distinct.counts c.requires.once c.loop-id-test.true c.loop-id-item.is)
