use Rattle.std.proofs.Common.{OnOk, subst, ◌∙◌}
use Rattle.tk_screen.specs.Texts.{Puts}
use Rattle.tk_frame.specs.Shown.{page_part}
use Rattle.tk_frame.proofs.shown.push_tasks_on.Goals as goal

pub returns : goal.returns
returns c =
    subst (λ xs. OnOk c.push_choices.result (Puts c.args.lines.now.items c.push_choices.new.lines.items (page_part c.args.tables.now xs c.args.page c.args.chosen)))
    (c.items.ensures ∙ c.in_ok-top.ensures.top) c.push_choices.ensures
