use Rattle.std.proofs.Common.{◌≡◌, ℕ, IfOk, ap, ap₂, ◌-◌, subst, ◌∙◌}
use Rattle.tk_frame.specs.Shown.{asked_screen}
use Rattle.tk_stream.specs.Tables.{TablesView}
use Rattle.tk_watch.proofs.session.text_of_held.Goals as goal

pub returns : goal.returns
returns c =
    let screen = c.args.screen.now in
    let held = c.args.held.now in
    subst (λ (n : ℕ). IfOk c.text_by.result (λ text. text.items ≡ asked_screen screen.canvas screen.query held.odd c.args.session.now.asked n held.tables held.times))
    (c.saturating_sub-behind.ensures
    ∙ ap₂ (λ (a b : ℕ). a - b) (c.now-now.ensures ∙ ap (λ (t : TablesView). t.now) c.tables.ensures) c.now.ensures)
    c.text_by.ensures
