use Rattle.tk_ledgers.proofs.HandleLemmas.{wakes}
use Rattle.tk_ledgers.proofs.handle.Handle.wake.Goals as goal

pub unreachable-requires : goal.unreachable-requires
unreachable-requires g c =
    let form = wakes g.O.Sequential.meaning c.args.self.now.view c.args.call c.call.result c.call.new.self.view c.requires.form c.call.ensures.entry in
    c.in_default.not-Woken form.0 form.1
