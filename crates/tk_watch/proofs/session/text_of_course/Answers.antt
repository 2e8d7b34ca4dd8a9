use Rattle.std.proofs.Common.{◌≡◌, IfOk, List, subst}
use Rattle.tk_frame.specs.Findings.{OddView}
use Rattle.tk_frame.specs.Shown.{asked_screen}
use Rattle.tk_stream.specs.Tables.{TablesView}
use Rattle.tk_stream.specs.Times.{TaskTimes}
use Rattle.tk_watch.proofs.session.text_of_course.Goals as goal

pub returns-in-Ok : goal.returns-in-Ok
returns-in-Ok c = λ shown s.
    let screen = c.args.screen.now in
    let start = c.args.course.now.client.start in
    subst (λ (o : OddView). IfOk c.text_by.result (λ text. text.items ≡ asked_screen screen.canvas screen.query o c.args.asked.now 0 start.tables start.times))
    (c.in-Ok.ensures screen.lints shown s)
    (subst (λ (t : TablesView). IfOk c.text_by.result (λ text. text.items ≡ asked_screen screen.canvas screen.query c.in-Ok.odd c.args.asked.now 0 t start.times)) c.tables.ensures
    (subst (λ (t : List TaskTimes). IfOk c.text_by.result (λ text. text.items ≡ asked_screen screen.canvas screen.query c.in-Ok.odd c.args.asked.now 0 c.tables.result.now t)) c.times-times.ensures
    c.text_by.ensures))
