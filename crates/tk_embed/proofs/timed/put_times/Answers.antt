use Rattle.tk_embed.proofs.FaultLemmas.{times_at}
use Rattle.tk_embed.proofs.timed.put_times.Goals as goal

pub returns-in-Err-clause-err : goal.returns-in-Err-clause-err
returns-in-Err-clause-err c =
    times_at c.args.now c.args.entries.now c.loop-i.i _ c.loop-i.table c.in-Err.bad c.loop-i-test.true
    c.loop-i.invariant
    c.in-Err.ensures.err
