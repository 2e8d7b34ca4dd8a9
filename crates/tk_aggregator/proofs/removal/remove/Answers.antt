use Rattle.std.proofs.Common.{Option, sym, ap, ◌∙◌}
use Rattle.std.specs.Prelude.{unwrap_or}
use Rattle.tk_ledgers.specs.Ops.{OpSight}
use Rattle.tk_ledgers.specs.Resources.{ResourceSight}
use Rattle.tk_ledgers.specs.Tasks.{TaskSight}
use Rattle.tk_stream.specs.Applied.{without_gone}
use Rattle.tk_stream.specs.Lines.{GoneView, none_gone}
use Rattle.tk_stream.specs.Tables.{task_id, resource_id, op_id, staying}
use Rattle.tk_stream.proofs.GoneLemmas.{staying_all}
use Rattle.tk_aggregator.proofs.removal.remove.Goals as goal

pub returns-in_default-clause-tables : goal.returns-in_default-clause-tables
returns-in_default-clause-tables c =
    let t = c.args.tables.now in
    sym (ap (λ (o : Option GoneView). without_gone t (unwrap_or o none_gone)) c.in_default.is
    ∙ (λ i. record t { tasks = staying_all task_id t.tasks i; resources = staying_all resource_id t.resources i; ops = staying_all op_id t.ops i }))

pub returns-in_default-clause-tasks : goal.returns-in_default-clause-tasks
returns-in_default-clause-tasks c =
    let handles = c.args.tasks.now.items in
    sym (ap (λ (o : Option GoneView). staying (λ (s : TaskSight). s.id) (unwrap_or o none_gone).tasks handles) c.in_default.is ∙ staying_all (λ (s : TaskSight). s.id) handles)

pub returns-in_default-clause-resources : goal.returns-in_default-clause-resources
returns-in_default-clause-resources c =
    let handles = c.args.resources.now.items in
    sym (ap (λ (o : Option GoneView). staying (λ (s : ResourceSight). s.id) (unwrap_or o none_gone).resources handles) c.in_default.is ∙ staying_all (λ (s : ResourceSight). s.id) handles)

pub returns-in_default-clause-ops : goal.returns-in_default-clause-ops
returns-in_default-clause-ops c =
    let handles = c.args.ops.now.items in
    sym (ap (λ (o : Option GoneView). staying (λ (s : OpSight). s.id) (unwrap_or o none_gone).ops handles) c.in_default.is ∙ staying_all (λ (s : OpSight). s.id) handles)
