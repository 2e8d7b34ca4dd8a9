use Rattle.std.proofs.Common.{◌≡◌, sym, ap, subst, ◌∙◌}
use Rattle.tk_stream.specs.Tables.{TablesView}
use Rattle.tk_embed.specs.Entries.{Given}
use Rattle.tk_embed.specs.Faults.{IsFaultOf}
use Rattle.tk_embed.proofs.FaultLemmas.{task_fault, resource_fault, op_fault, count_fault}
use Rattle.tk_embed.proofs.tables.fill.Goals as goal

pub returns-in-Err-clause-err : goal.returns-in-Err-clause-err
returns-in-Err-clause-err c =
    let given : Given = record { tasks = c.args.tasks.now; resources = c.args.resources.now; ops = c.args.ops.now; counts = c.args.counts.now; attrs = c.args.attrs.now; text = c.args.text.now } in
    subst (IsFaultOf c.args.now given) (sym c.task_fault.ensures)
    (task_fault c.args.now given c.in-Err.place c.in-Err.bad (c.in-Err.ensures.err (ap (λ (t : TablesView). t.tasks) c.requires)))

pub returns-in-Err-put_resources-clause-err : goal.returns-in-Err-put_resources-clause-err
returns-in-Err-put_resources-clause-err c =
    let given : Given = record { tasks = c.args.tasks.now; resources = c.args.resources.now; ops = c.args.ops.now; counts = c.args.counts.now; attrs = c.args.attrs.now; text = c.args.text.now } in
    subst (IsFaultOf c.args.now given) (sym c.resource_fault.ensures)
    (resource_fault c.args.now given c.in-Err-put_resources.place c.in-Err-put_resources.bad
    (c.in-Err-put_resources.ensures.err (c.in_default.ensures.ok.resources ∙ ap (λ (t : TablesView). t.resources) c.requires)))

pub returns-in-Err-put_ops-clause-err : goal.returns-in-Err-put_ops-clause-err
returns-in-Err-put_ops-clause-err c =
    let given : Given = record { tasks = c.args.tasks.now; resources = c.args.resources.now; ops = c.args.ops.now; counts = c.args.counts.now; attrs = c.args.attrs.now; text = c.args.text.now } in
    subst (IsFaultOf c.args.now given) (sym c.op_fault.ensures)
    (op_fault c.args.now given c.in-Err-put_ops.place c.in-Err-put_ops.bad
    (c.in-Err-put_ops.ensures.err (c.in_default-put_resources.ensures.ok.ops ∙ c.in_default.ensures.ok.ops ∙ ap (λ (t : TablesView). t.ops) c.requires)))

pub returns-in-Err-put_counts-clause-err : goal.returns-in-Err-put_counts-clause-err
returns-in-Err-put_counts-clause-err c =
    let given : Given = record { tasks = c.args.tasks.now; resources = c.args.resources.now; ops = c.args.ops.now; counts = c.args.counts.now; attrs = c.args.attrs.now; text = c.args.text.now } in
    subst (IsFaultOf c.args.now given) (sym c.count_fault.ensures)
    (count_fault c.args.now given c.in-Err-put_counts.place c.in-Err-put_counts.bad
    (c.in-Err-put_counts.ensures.err (c.in_default-put_ops.ensures.ok.counts ∙ c.in_default-put_resources.ensures.ok.counts ∙ c.in_default.ensures.ok.counts ∙ ap (λ (t : TablesView). t.counts) c.requires)))
