use Rattle.std.proofs.Common.{[], ◌∷◌, subst}
use Rattle.std.specs.Prelude.{flat_map}
use Rattle.tk_screen.specs.Texts.{Puts}
use Rattle.tk_screen.proofs.PutLemmas.{both}
use Rattle.tk_frame.specs.Frames.{task_at}
use Rattle.tk_frame.specs.Lines.{heading}
use Rattle.tk_frame.proofs.lines.push_table.Goals as goal

pub returns : goal.returns
returns c =
    let columns : Puts c.args.lines.now.items c.push_heading.new.lines.items (heading _ ∷ []) =
    subst (λ t. Puts c.args.lines.now.items c.push_heading.new.lines.items (heading t ∷ [])) c.task_heading.ensures c.in_ok-push_heading.ensures in
    let tasks : Puts c.push_heading.new.lines.items c.push_tasks.new.lines.items (flat_map (task_at c.args.tables.now) _) =
    subst (λ xs. Puts c.push_heading.new.lines.items c.push_tasks.new.lines.items (flat_map (task_at c.args.tables.now) xs)) c.ranks_on.ensures c.in_ok-push_tasks.ensures in
    both columns (both tasks c.in_ok-push_page.ensures)
