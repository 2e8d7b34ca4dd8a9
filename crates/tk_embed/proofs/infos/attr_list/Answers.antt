use Rattle.tk_embed.proofs.FaultLemmas.{attr_at}
use Rattle.tk_embed.proofs.infos.attr_list.Goals as goal

pub returns-in-Err-clause-err : goal.returns-in-Err-clause-err
returns-in-Err-clause-err c = attr_at c.args.text.now c.args.entries.now c.loop-i.i _ c.in-Err.bad c.loop-i-test.true c.in-Err.ensures.err
