use Rattle.tk_cell.specs.Views.{as_caller}
use Rattle.tk_ledgers.proofs.HandleLemmas.{wakes}
use Rattle.tk_ledgers.proofs.HandLemmas.{wake_draws_none}
use Rattle.tk_ledgers.proofs.callers.Callers.wake_as.Goals as goal

pub unreachable-requires : goal.unreachable-requires
unreachable-requires g c =
    let form = wakes g.O.Sequential.meaning (as_caller c.args.number c.args.self.now.view) c.args.call c.call_as.result c.call_as.new.self.view c.requires.form c.call_as.ensures.entry.made in
    c.in_default.not-Woken form.0 form.1

pub call_as-requires-clause-draws : goal.call_as-requires-clause-draws
call_as-requires-clause-draws g c = wake_draws_none g.O.Sequential.meaning c.requires.plain g.K.Role.role c.args.call c.requires.form
