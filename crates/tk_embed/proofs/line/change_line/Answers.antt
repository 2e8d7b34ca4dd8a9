use Rattle.tk_embed.specs.Entries.{Given}
use Rattle.tk_embed.proofs.FaultLemmas.{few_tasks, few_resources, few_ops, few_counts, fault_of_told, memory_alone}
use Rattle.tk_embed.proofs.LineLemmas.{told_for, change_for}
use Rattle.tk_embed.proofs.line.change_line.Goals as goal

pub returns-in_default-clause-err : goal.returns-in_default-clause-err
returns-in_default-clause-err c =
    let given : Given = record { tasks = c.args.tasks.now; resources = c.args.resources.now; ops = c.args.ops.now; counts = c.args.counts.now; attrs = c.args.attrs.now; text = c.args.text.now } in
    few_tasks c.args.head.now given c.in_default.ensures.none

pub returns-in_default-front-clause-err : goal.returns-in_default-front-clause-err
returns-in_default-front-clause-err c =
    let given : Given = record { tasks = c.args.tasks.now; resources = c.args.resources.now; ops = c.args.ops.now; counts = c.args.counts.now; attrs = c.args.attrs.now; text = c.args.text.now } in
    few_resources c.args.head.now given c.in_default-front.ensures.none

pub returns-in_default-front-2-clause-err : goal.returns-in_default-front-2-clause-err
returns-in_default-front-2-clause-err c =
    let given : Given = record { tasks = c.args.tasks.now; resources = c.args.resources.now; ops = c.args.ops.now; counts = c.args.counts.now; attrs = c.args.attrs.now; text = c.args.text.now } in
    few_ops c.args.head.now given c.in_default-front-2.ensures.none

pub returns-in_default-front-3-clause-err : goal.returns-in_default-front-3-clause-err
returns-in_default-front-3-clause-err c =
    let given : Given = record { tasks = c.args.tasks.now; resources = c.args.resources.now; ops = c.args.ops.now; counts = c.args.counts.now; attrs = c.args.attrs.now; text = c.args.text.now } in
    few_counts c.args.head.now given c.in_default-front-3.ensures.none

pub returns-in-Ok-clause-ok : goal.returns-in-Ok-clause-ok
returns-in-Ok-clause-ok c =
    let given : Given = record { tasks = c.args.tasks.now; resources = c.args.resources.now; ops = c.args.ops.now; counts = c.args.counts.now; attrs = c.args.attrs.now; text = c.args.text.now } in
    change_for c.between.result c.args.head.now given c.in-Ok.old c.in_ok-new.new
    (told_for c.args.head.now given c.in-Ok.old c.in-Some.told_tasks.now c.in-Some-front.told_resources.now c.in-Some-front-2.told_ops.now c.in-Some-front-3.told_counts.now
    c.in-Some.ensures.some c.in-Some-front.ensures.some c.in-Some-front-2.ensures.some c.in-Some-front-3.ensures.some c.in-Ok.ensures.ok)
    c.in_ok-new.ensures.ok c.between.ensures.ok

pub returns-in-Ok-clause-err : goal.returns-in-Ok-clause-err
returns-in-Ok-clause-err c =
    let given : Given = record { tasks = c.args.tasks.now; resources = c.args.resources.now; ops = c.args.ops.now; counts = c.args.counts.now; attrs = c.args.attrs.now; text = c.args.text.now } in
    memory_alone c.args.head.now given c.between.result c.between.ensures.err

pub returns-clause-err : goal.returns-clause-err
returns-clause-err c =
    let given : Given = record { tasks = c.args.tasks.now; resources = c.args.resources.now; ops = c.args.ops.now; counts = c.args.counts.now; attrs = c.args.attrs.now; text = c.args.text.now } in
    fault_of_told c.args.head.now given c.in-Err.fault c.in-Some.told_tasks.now c.in-Some-front.told_resources.now c.in-Some-front-2.told_ops.now c.in-Some-front-3.told_counts.now
    c.in-Some.ensures.some c.in-Some-front.ensures.some c.in-Some-front-2.ensures.some c.in-Some-front-3.ensures.some c.in-Err.ensures.err
