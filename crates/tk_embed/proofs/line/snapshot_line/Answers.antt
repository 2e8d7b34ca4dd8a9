use Rattle.tk_embed.specs.Entries.{Given}
use Rattle.tk_embed.proofs.FaultLemmas.{memory_alone}
use Rattle.tk_embed.proofs.LineLemmas.{snapshot_for}
use Rattle.tk_embed.proofs.line.snapshot_line.Goals as goal

pub returns-clause-ok : goal.returns-clause-ok
returns-clause-ok c = snapshot_for c.between.result c.args.head.now
    (record { tasks = c.args.tasks.now; resources = c.args.resources.now; ops = c.args.ops.now; counts = c.args.counts.now; attrs = c.args.attrs.now; text = c.args.text.now })
    c.in_ok-new.new c.in_ok-new.ensures.ok c.between.ensures.ok

pub returns-clause-err : goal.returns-clause-err
returns-clause-err c =
    let given : Given = record { tasks = c.args.tasks.now; resources = c.args.resources.now; ops = c.args.ops.now; counts = c.args.counts.now; attrs = c.args.attrs.now; text = c.args.text.now } in
    memory_alone c.args.head.now given c.between.result c.between.ensures.err
