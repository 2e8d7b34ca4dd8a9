use Rattle.std.proofs.Common.{◌++◌, ◌∙◌, ap}
use Rattle.tk_screen.specs.Screens.{screen_text}
use Rattle.tk_watch.proofs.drawing.text_by.Goals as goal

pub returns : goal.returns
returns c =
    c.in_ok-put_screen.ensures.is
    ∙ ap (λ xs. xs ++ screen_text c.args.screen.now.canvas c.as_slice.result.now) c.new-text.ensures.items
    ∙ ap (screen_text c.args.screen.now.canvas) (c.as_slice.ensures.value ∙ c.in_ok-lines.ensures)
