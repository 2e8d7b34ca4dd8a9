use Rattle.std.proofs.Common.{◌≡◌, ap, ap₂, ◌∙◌}
use Rattle.std.specs.Prelude.{◌||◌}
use Rattle.tk_stream.specs.Applied.{task_kind, resource_kind, op_kind}
use Rattle.tk_stream.specs.Lines.{LineView, GoneView, gone_of}
use Rattle.tk_stream.specs.Tables.{TablesView}
use Rattle.tk_client.specs.Taking.{repeats_gone_kind, strange_gone_kind}
use Rattle.tk_client.specs.Applying.{worse, finding}
use Rattle.tk_client.proofs.LineLemmas.{worse-of}
use Rattle.tk_client.proofs.taking.look_at_gone.Goals as goal

pub returns : goal.returns
returns c =
    let old : TablesView = c.args.old.now in
    let l : LineView = c.args.line.now in
    let same = c.leaving.view_is ∙ c.requires in
    let tasks : c.look_at_kind-tasks.result ≡ finding (repeats_gone_kind task_kind (gone_of l).tasks l.task_stats) (strange_gone_kind task_kind old.tasks (gone_of l).tasks) =
    c.look_at_kind-tasks.ensures
    ∙ ap₂ (λ ids stats. finding (repeats_gone_kind task_kind ids stats) (strange_gone_kind task_kind old.tasks ids)) (ap (λ (g : GoneView). g.tasks) same) c.task_stats.ensures in
    let resources : c.look_at_kind-resources.result ≡ finding (repeats_gone_kind resource_kind (gone_of l).resources l.resource_stats) (strange_gone_kind resource_kind old.resources (gone_of l).resources) =
    c.look_at_kind-resources.ensures
    ∙ ap₂ (λ ids stats. finding (repeats_gone_kind resource_kind ids stats) (strange_gone_kind resource_kind old.resources ids)) (ap (λ (g : GoneView). g.resources) same) c.resource_stats.ensures in
    let ops : c.look_at_kind-ops.result ≡ finding (repeats_gone_kind op_kind (gone_of l).ops l.op_stats) (strange_gone_kind op_kind old.ops (gone_of l).ops) =
    c.look_at_kind-ops.ensures
    ∙ ap₂ (λ ids stats. finding (repeats_gone_kind op_kind ids stats) (strange_gone_kind op_kind old.ops ids)) (ap (λ (g : GoneView). g.ops) same) c.op_stats.ensures in
    let a = repeats_gone_kind task_kind (gone_of l).tasks l.task_stats in
    let b = strange_gone_kind task_kind old.tasks (gone_of l).tasks in
    let d = repeats_gone_kind resource_kind (gone_of l).resources l.resource_stats in
    let e = strange_gone_kind resource_kind old.resources (gone_of l).resources in
    let f = repeats_gone_kind op_kind (gone_of l).ops l.op_stats in
    let h = strange_gone_kind op_kind old.ops (gone_of l).ops in
    c.worse-2.ensures
    ∙ ap₂ worse tasks (c.worse.ensures ∙ ap₂ worse resources ops ∙ worse-of d e f h)
    ∙ worse-of a b (d || f) (e || h)
