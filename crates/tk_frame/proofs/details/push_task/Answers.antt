use Rattle.std.proofs.Common.{subst}
use Rattle.tk_screen.specs.Texts.{Puts}
use Rattle.tk_screen.proofs.PutLemmas.{both}
use Rattle.tk_frame.specs.Details.{row_part}
use Rattle.tk_frame.proofs.details.push_task.Goals as goal

pub returns : goal.returns
returns c =
    both c.in_ok-push_info.ensures
    (both c.in_ok-push_ops.ensures
    (both c.in_ok-push_owns.ensures
    (both c.in_ok-push_times.ensures
    (subst (λ now. Puts c.push_times.new.lines.items c.push_row.new.lines.items (row_part now c.args.task.now.row)) c.now.ensures c.in_ok-push_row.ensures))))
