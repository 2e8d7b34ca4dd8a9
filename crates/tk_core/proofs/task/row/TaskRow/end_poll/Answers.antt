use Rattle.std.proofs.Common.{◌≡◌, true, false}
use Rattle.std.specs.Prelude.{is_some}
use Rattle.tk_core.specs.Laws.TaskSteps.{follows}
use Rattle.tk_core.proofs.task.row.TaskRow.end_poll.Goals as goal

pub returns-then-is_some : goal.returns-then-is_some
returns-then-is_some c =
    let closed : is_some c.args.self.now.dropped ≡ true = cc in
    follows _ _ _ (λ within. rw closed)

pub returns-then-not-self : goal.returns-then-not-self
returns-then-not-self c =
    let live : is_some c.args.self.now.dropped ≡ false = cc in
    follows _ _ _ (λ within. rw (live, c.if-not-self.true))

pub returns : goal.returns
returns c =
    let live : is_some c.args.self.now.dropped ≡ false = cc in
    follows _ _ _ (λ within. rw (live, c.if-not-self.false, c.waits_at_end.ensures) (cc))
