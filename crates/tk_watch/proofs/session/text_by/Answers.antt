use Rattle.std.proofs.Common.{◌++◌, ◌∙◌, ap}
use Rattle.tk_frame.specs.Shown.{lines_of}
use Rattle.tk_screen.specs.Screens.{screen_text}
use Rattle.tk_watch.proofs.session.text_by.Goals as goal

pub returns : goal.returns
returns c =
    c.in_ok-put_screen.ensures.is
    ∙ ap (λ xs. xs ++ screen_text c.canvas-canvas.result c.as_slice.result.now) c.new-text.ensures.items
    ∙ ap (screen_text c.canvas-canvas.result) (c.as_slice.ensures.value ∙ c.in_ok-lines.ensures)
    ∙ ap (λ k. screen_text k (lines_of c.args.asked.now c.args.behind k c.args.screen.now.query c.args.tables.now c.args.times.now c.args.odd.now)) c.canvas-canvas.ensures
