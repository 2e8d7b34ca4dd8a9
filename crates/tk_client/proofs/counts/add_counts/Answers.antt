use Rattle.std.proofs.Common.{◌≡◌, ◌+◌, ◌++◌, List, ap, sym, ◌∙◌, take, subst}
use Rattle.std.specs.Prelude.{filter}
use Rattle.tk_stream.specs.Lines.{is_new}
use Rattle.tk_stream.specs.Tables.{TablesView, PollCounts, counts_id}
use Rattle.tk_client.specs.Applying.{Grown, count_added}
use Rattle.tk_client.proofs.KeyedLemmas.{grows-next, none_added}
use Rattle.tk_client.proofs.CutLemmas.{grown-same, grown-counts}
use Rattle.tk_client.proofs.counts.add_counts.Goals as goal

pub loop-id-init : goal.loop-id-init
loop-id-init c =
    let tables : TablesView = c.args.tables.now in
    record { added = ap (λ (cs : List PollCounts). record tables { counts = cs }) (none_added counts_id tables.counts); grown = grown-same tables }

pub loop-id-preserved : goal.loop-id-preserved
loop-id-preserved c =
    let tables : TablesView = c.args.tables.now in
    let item : PollCounts = c.loop-id-item.result in
    let new : List PollCounts = filter (is_new counts_id tables.counts) (take (c.loop-id.id-index + 1) c.args.told.now) in
    let added : c.add_one.new.tables ≡ record tables { counts = tables.counts ++ new } =
    c.in_ok-add_one.ensures.ok
    ∙ ap (λ (v : TablesView). record v { counts = count_added item v.counts }) c.loop-id.invariant.added
    ∙ ap (λ (cs : List PollCounts). record tables { counts = cs }) (grows-next counts_id tables.counts c.args.told.now c.loop-id.id-index item c.requires c.loop-id-test.true c.loop-id-item.is) in
    record { added = added; grown = subst (Grown tables) (sym added) (grown-counts tables new) }
