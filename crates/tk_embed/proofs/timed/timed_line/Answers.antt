use Rattle.tk_embed.specs.Entries.{Given}
use Rattle.tk_embed.proofs.FaultLemmas.{timed_memory}
use Rattle.tk_embed.proofs.LineLemmas.{timed_for}
use Rattle.tk_embed.proofs.timed.timed_line.Goals as goal

pub returns-clause-ok : goal.returns-clause-ok
returns-clause-ok c =
    let given : Given = record { tasks = c.args.tasks.now; resources = c.args.resources.now; ops = c.args.ops.now; counts = c.args.counts.now; attrs = c.args.attrs.now; text = c.args.text.now } in
    timed_for (λ text. text.items) c.sent.result c.args.head.now given c.args.told c.args.times.now c.in_ok-line.line c.in_ok-timed.timed c.told_count-told.result
    c.in_ok-line.ensures.ok c.told_count-told.ensures c.in_ok-timed.ensures.ok c.sent.ensures.ok

pub returns-clause-err : goal.returns-clause-err
returns-clause-err c =
    let given : Given = record { tasks = c.args.tasks.now; resources = c.args.resources.now; ops = c.args.ops.now; counts = c.args.counts.now; attrs = c.args.attrs.now; text = c.args.text.now } in
    timed_memory c.args.head.now given c.args.told c.args.times.now c.sent.result c.sent.ensures.err
