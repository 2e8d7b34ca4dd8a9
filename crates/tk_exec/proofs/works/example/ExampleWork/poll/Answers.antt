use Rattle.std.proofs.Common.{ℕ, subst, sym}
use Rattle.futures.specs.Poll.{OnPending}
use Rattle.tk_exec.specs.Works.{busy_gives, example_gives}
use Rattle.tk_exec.specs.declared.works.example.Example.{Example}
use Rattle.tk_exec.proofs.works.example.ExampleWork.poll.Goals as goal

pub returns-in-Busy-clause-same : goal.returns-in-Busy-clause-same
returns-in-Busy-clause-same g c =
    subst (λ (w : Example). OnPending c.poll-in-Busy.result ((x : ℕ) → busy_gives c.poll-in-Busy.new.self x → example_gives w x)) (sym c.in-Busy.is) c.poll-in-Busy.ensures.same
