use Rattle.std.proofs.Common.{◌≡◌, IfOk, subst}
use Rattle.tk_frame.specs.Findings.{OddView}
use Rattle.tk_frame.specs.Keys.{pressed}
use Rattle.tk_stream.specs.Tables.{TablesView}
use Rattle.tk_watch.proofs.session.press_at_course.Goals as goal

pub returns-in-Ok : goal.returns-in-Ok
returns-in-Ok c = λ shown s.
    let screen = c.args.screen.now in
    subst (λ (o : OddView). IfOk c.press_by.result (λ next. next ≡ pressed screen.canvas screen.query o c.args.course.now.client.start.tables c.args.asked.now c.args.key))
    (c.in-Ok.ensures screen.lints shown s)
    (subst (λ (t : TablesView). IfOk c.press_by.result (λ next. next ≡ pressed screen.canvas screen.query c.in-Ok.odd t c.args.asked.now c.args.key)) c.tables.ensures c.press_by.ensures)
