use Rattle.std.proofs.Common.{◌≡◌, false, ap, ap₂, ◌∙◌}
use Rattle.std.specs.Prelude.{map}
use Rattle.tk_stream.specs.Applied.{task_kind, resource_kind, op_kind}
use Rattle.tk_stream.specs.Tables.{TablesView, counts_id}
use Rattle.tk_stream.specs.Lines.{LineView}
use Rattle.tk_client.specs.Taking.{repeats_kind, strange_kind, has_twice}
use Rattle.tk_client.specs.Applying.{worse, finding}
use Rattle.tk_client.proofs.LineLemmas.{worst}
use Rattle.tk_client.proofs.taking.look_at_told.Goals as goal

pub returns : goal.returns
returns c =
    let old : TablesView = c.args.old.now in
    let l : LineView = c.args.line.now in
    let tasks : c.in_ok-tasks.tasks ≡ finding (repeats_kind task_kind old.tasks l.new_tasks l.task_stats) (strange_kind task_kind old.tasks l.new_tasks l.task_stats) =
    c.in_ok-tasks.ensures ∙ ap₂ (λ infos stats. finding (repeats_kind task_kind old.tasks infos stats) (strange_kind task_kind old.tasks infos stats)) c.new_tasks.ensures c.task_stats.ensures in
    let resources : c.in_ok-resources.resources ≡ finding (repeats_kind resource_kind old.resources l.new_resources l.resource_stats) (strange_kind resource_kind old.resources l.new_resources l.resource_stats) =
    c.in_ok-resources.ensures ∙ ap₂ (λ infos stats. finding (repeats_kind resource_kind old.resources infos stats) (strange_kind resource_kind old.resources infos stats)) c.new_resources.ensures c.resource_stats.ensures in
    let ops : c.in_ok-ops.ops ≡ finding (repeats_kind op_kind old.ops l.new_ops l.op_stats) (strange_kind op_kind old.ops l.new_ops l.op_stats) =
    c.in_ok-ops.ensures ∙ ap₂ (λ infos stats. finding (repeats_kind op_kind old.ops infos stats) (strange_kind op_kind old.ops infos stats)) c.new_ops.ensures c.op_stats.ensures in
    let counts : c.in_ok-counts.counts ≡ finding (has_twice (map counts_id l.poll_counts)) false =
    c.in_ok-counts.ensures ∙ ap (λ cs. finding (has_twice (map counts_id cs)) false) c.poll_counts.ensures in
    c.worse-3.ensures
    ∙ ap₂ worse tasks (c.worse-2.ensures ∙ ap₂ worse resources (c.worse.ensures ∙ ap₂ worse ops counts))
    ∙ worst (repeats_kind task_kind old.tasks l.new_tasks l.task_stats) (strange_kind task_kind old.tasks l.new_tasks l.task_stats)
    (repeats_kind resource_kind old.resources l.new_resources l.resource_stats) (strange_kind resource_kind old.resources l.new_resources l.resource_stats)
    (repeats_kind op_kind old.ops l.new_ops l.op_stats) (strange_kind op_kind old.ops l.new_ops l.op_stats) (has_twice (map counts_id l.poll_counts))
