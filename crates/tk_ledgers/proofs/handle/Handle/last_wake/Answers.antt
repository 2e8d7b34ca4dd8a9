use Rattle.tk_ledgers.proofs.HandleLemmas.{wakes}
use Rattle.tk_ledgers.proofs.handle.Handle.last_wake.Goals as goal

pub unreachable-requires : goal.unreachable-requires
unreachable-requires g c =
    let form = wakes g.O.Sequential.meaning c.args.self.view c.args.call c.last_call-reply.result.0 c.last_call-reply.result.1.view c.requires.form c.last_call-reply.ensures.entry in
    c.in_default.not-Woken form.0 form.1
