use Rattle.std.proofs.Common.{List, subst}
use Rattle.tk_odd.specs.Findings.{Told}
use Rattle.tk_screen.specs.Texts.{Puts}
use Rattle.tk_screen.proofs.PutLemmas.{both}
use Rattle.tk_frame.specs.Findings.{own_part}
use Rattle.tk_frame.proofs.place_view.push_part.Goals as goal

pub returns : goal.returns
returns c =
    both c.in_ok-push_row.ensures
    (both
    (subst (λ (fs : List Told). Puts c.push_row.new.lines.items c.push_own_each.new.lines.items (own_part c.args.tables.now.tasks c.args.site.now fs)) c.findings.ensures.whom
    c.in_ok-push_own_each.ensures)
    c.in_ok-push_tasks_at.ensures)
