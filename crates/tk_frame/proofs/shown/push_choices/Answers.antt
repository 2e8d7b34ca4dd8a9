use Rattle.std.proofs.Common.{◌≡◌, [], ◌∷◌, drop, ◌-◌, ◌∙◌, ap, subst}
use Rattle.tk_screen.specs.Texts.{Puts}
use Rattle.tk_screen.proofs.PutLemmas.{both}
use Rattle.tk_frame.specs.Lines.{heading}
use Rattle.tk_frame.specs.Pages.{chosen_of}
use Rattle.tk_frame.specs.Shown.{rows_part}
use Rattle.tk_frame.proofs.shown.push_choices.Goals as goal

pub returns : goal.returns
returns c =
    let row_is : c.saturating_sub-row.result ≡ chosen_of c.args.chosen c.args.page.all - c.args.page.from =
    c.saturating_sub-row.ensures ∙ ap (λ n. n - c.args.page.from) c.chosen_of.ensures in
    let columns : Puts c.args.lines.now.items c.push_heading.new.lines.items (heading _ ∷ []) =
    subst (λ t. Puts c.args.lines.now.items c.push_heading.new.lines.items (heading t ∷ [])) c.task_heading.ensures c.in_ok-push_heading.ensures in
    let rows = subst (λ n. Puts c.push_heading.new.lines.items c.push_rows.new.lines.items (rows_part c.args.tables.now (drop c.args.page.from c.args.top.now) n)) row_is
    (subst (λ xs. Puts c.push_heading.new.lines.items c.push_rows.new.lines.items (rows_part c.args.tables.now xs c.saturating_sub-row.result)) c.ranks_on.ensures c.in_ok-push_rows.ensures) in
    both columns (both rows c.in_ok-push_page.ensures)
