use Rattle.std.proofs.Common.{ap}
use Rattle.crossbeam_queue.specs.Passes.{view}
use Rattle.tk_events.specs.declared.buffer.view.View.{View}
use Rattle.tk_events.proofs.BufferLemmas.{begins, forks_limit}
use Rattle.tk_events.proofs.buffer.open.Goals as goal

pub ruled-requires-clause-rule : goal.ruled-requires-clause-rule
ruled-requires-clause-rule g c = begins

pub another-requires-clause-rule : goal.another-requires-clause-rule
another-requires-clause-rule g c =
    let first_is = c.in_ok-queue.ensures.3 in
    rw c.requires.picked (forks_limit c.in_ok-queue.pass.id (view c.in_ok-queue.pass) c.args.recorders (ap (λ (u : View). u.role) first_is) (ap (λ (u : View). u.made) first_is))
