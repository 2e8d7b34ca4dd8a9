use Rattle.tk_client.proofs.TellLemmas.{none-told, tells-on}
use Rattle.tk_client.proofs.taking.tell_all.Goals as goal

pub loop-told-init : goal.loop-told-init
loop-told-init g c = none-told g.T.Listed.kind g.T.Listed.items g.T.Listed.with_items g.met.T.Listed.keeps c.args.tables.now

pub loop-told-preserved : goal.loop-told-preserved
loop-told-preserved g c =
    tells-on g.T.Listed.kind g.T.Listed.items g.T.Listed.with_items g.met.T.Listed.keeps_id g.met.T.Listed.reads g.met.T.Listed.writes
    c.args.tables.now c.loop-told.tables c.tell_at.new.tables c.args.stats.now c.loop-told.told-index c.told-item.result
    c.requires.distinct c.requires.once c.loop-told-test.true c.told-item.is c.loop-told.invariant c.tell_at.ensures
