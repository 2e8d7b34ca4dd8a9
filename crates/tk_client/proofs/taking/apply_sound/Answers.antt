use Rattle.tk_client.proofs.LineLemmas.{tells-once}
use Rattle.tk_client.proofs.taking.apply_sound.Goals as goal

pub tell_line-requires-clause-once : goal.tell_line-requires-clause-once
tell_line-requires-clause-once c =
    let once = tells-once c.args.tables.now c.args.line.now c.requires.once in
    rw c.in-Ok.ensures.spent (record { tasks = once.tasks; resources = once.resources; ops = once.ops; counts = once.counts })
