use Rattle.std.proofs.Common.{sym, ◌∙◌}
use Rattle.tk_watch.specs.Keying.{holding}
use Rattle.tk_watch.proofs.KeyLemmas.{held_new}
use Rattle.tk_watch.proofs.session.turn.Goals as goal

pub returns-clause-held : goal.returns-clause-held
returns-clause-held c = λ lints shown s.
    held_new c.args.paused c.args.session.now.held (holding lints shown c.args.session.now.course.client.start.tables c.args.session.now.course.client.start.times) c.in_ok-held.held c.if-not-paused.false
    (sym c.is_some.ensures ∙ c.if-is_some.false) (c.in_ok-held.ensures lints shown s)
