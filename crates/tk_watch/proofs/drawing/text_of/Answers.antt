use Rattle.std.proofs.Common.{◌≡◌, IfOk, subst}
use Rattle.tk_frame.specs.Findings.{OddView}
use Rattle.tk_frame.specs.Frames.{frame_text}
use Rattle.tk_stream.specs.Tables.{TablesView}
use Rattle.tk_watch.proofs.drawing.text_of.Goals as goal

pub returns-in-Ok : goal.returns-in-Ok
returns-in-Ok c = λ shown s.
    let screen = c.args.screen.now in
    subst (λ (o : OddView). IfOk c.text_by.result (λ text. text.items ≡ frame_text screen.canvas screen.query o c.args.course.now.client.start.tables)) (c.in-Ok.ensures screen.lints shown s)
    (subst (λ (t : TablesView). IfOk c.text_by.result (λ text. text.items ≡ frame_text screen.canvas screen.query c.in-Ok.odd t)) c.tables.ensures c.text_by.ensures)
