use Rattle.std.proofs.Common.{OnOk, subst, ◌∙◌}
use Rattle.tk_screen.specs.Texts.{Puts}
use Rattle.tk_frame.specs.Frames.{table_part}
use Rattle.tk_frame.proofs.lines.push_tasks_on.Goals as goal

pub returns : goal.returns
returns c =
    subst (λ xs. OnOk c.push_table.result (Puts c.args.lines.now.items c.push_table.new.lines.items (table_part c.args.tables.now xs c.args.page)))
    (c.items.ensures ∙ c.in_ok-top.ensures.top) c.push_table.ensures
