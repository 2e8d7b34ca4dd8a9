use Rattle.tk_embed.specs.Entries.{Given}
use Rattle.tk_embed.proofs.FaultLemmas.{memory_alone}
use Rattle.tk_embed.proofs.LineLemmas.{gone_for}
use Rattle.tk_embed.proofs.leaving.gone_line.Goals as goal

pub returns-clause-ok : goal.returns-clause-ok
returns-clause-ok c = gone_for (λ text. text.items) c.text_of_leaving.result c.args.head.now c.args.retention
    (record { tasks = c.args.tasks.now; resources = c.args.resources.now; ops = c.args.ops.now; counts = c.args.counts.now; attrs = c.args.attrs.now; text = c.args.text.now })
    c.in_ok-tables.tables c.in_ok-tables.ensures.ok c.text_of_leaving.ensures.ok

pub returns-clause-err : goal.returns-clause-err
returns-clause-err c =
    let given : Given = record { tasks = c.args.tasks.now; resources = c.args.resources.now; ops = c.args.ops.now; counts = c.args.counts.now; attrs = c.args.attrs.now; text = c.args.text.now } in
    memory_alone c.args.head.now given c.text_of_leaving.result c.text_of_leaving.ensures.err
