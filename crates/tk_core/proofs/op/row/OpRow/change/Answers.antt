use Rattle.std.proofs.Common.{◌≡◌, true, false}
use Rattle.std.specs.Prelude.{is_some}
use Rattle.tk_core.specs.Laws.OpSteps.{follows}
use Rattle.tk_core.proofs.op.row.OpRow.change.Goals as goal

pub returns-then-is_some : goal.returns-then-is_some
returns-then-is_some c =
    let closed : is_some c.args.self.now.dropped ≡ true = cc in
    follows _ _ _ (λ within. rw closed)

pub returns-in-Ok : goal.returns-in-Ok
returns-in-Ok c =
    let live : is_some c.args.self.now.dropped ≡ false = cc in
    follows _ _ _ (λ within. rw (live, c.in-Ok.ensures.0, c.in-Ok.ensures.1))

pub returns-in-Err : goal.returns-in-Err
returns-in-Err c =
    let live : is_some c.args.self.now.dropped ≡ false = cc in
    follows _ _ _ (λ within. rw (live, c.in-Err.ensures))
