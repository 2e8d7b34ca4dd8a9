use Rattle.std.proofs.Common.{List, ◌++◌, map, take, ap, ◌∙◌}
use Rattle.tk_stream.specs.declared.tables.task.Task.{Task}
use Rattle.tk_embed.specs.Entries.{task_shown, task_entry_shown}
use Rattle.tk_embed.proofs.FaultLemmas.{task_at}
use Rattle.tk_embed.proofs.tables.put_tasks.Goals as goal

pub returns-in-Err-clause-err : goal.returns-in-Err-clause-err
returns-in-Err-clause-err c empty =
    task_at c.args.text.now c.args.now c.args.entries.now c.loop-i.i _ c.loop-i.tables.tasks c.in-Err.bad c.loop-i-test.true
    (c.loop-i.invariant.tasks ∙ ap (λ (ts : List Task). map task_shown ts ++ map (task_entry_shown c.args.text.now c.args.now) (take c.loop-i.i c.args.entries.now)) empty)
    c.in-Err.ensures.err
