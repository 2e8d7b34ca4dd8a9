use Rattle.std.proofs.Common.{[], ◌∷◌, subst}
use Rattle.tk_screen.specs.Texts.{Puts}
use Rattle.tk_screen.proofs.PutLemmas.{both}
use Rattle.tk_frame.specs.Lines.{heading}
use Rattle.tk_frame.proofs.place_view.push_tasks_at.Goals as goal

pub returns : goal.returns
returns c =
    let columns : Puts c.args.lines.now.items c.push_heading.new.lines.items (heading _ ∷ []) =
    subst (λ t. Puts c.args.lines.now.items c.push_heading.new.lines.items (heading t ∷ [])) c.task_heading.ensures c.in_ok-push_heading.ensures in
    both columns c.in_ok-push_tasks.ensures
