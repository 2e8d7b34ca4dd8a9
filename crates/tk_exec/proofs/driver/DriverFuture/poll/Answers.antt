use Rattle.std.proofs.Common.{◌∙◌, ◌≤◌, Some, sym, subst}
use Rattle.futures.specs.declared.task.Poll.{Poll}
use Rattle.futures.specs.Poll.{OnPending}
use Rattle.tk_exec.specs.Drives.{RanGives, DriverGives, OneTurn}
use Rattle.tk_exec.specs.declared.driver.Ran.{Ran}
use Rattle.tk_exec.specs.declared.driver.Ran.TheVariants.{Finished, Stalled}
use Rattle.tk_exec.proofs.DriveLemmas.{finishes, stalls, driver_gives, given_before, one_turn}
use Rattle.tk_exec.proofs.driver.DriverFuture.poll.Goals as goal

pub returns-then-unfinished-eq0-clause-value : goal.returns-then-unfinished-eq0-clause-value
returns-then-unfinished-eq0-clause-value g c =
    driver_gives g.C.Clock.reads g.W.Work.polls g.W.Work.gives c.self.inside.run c.in-Some.run' c.self.inside.clock c.self.inside.idle c.self.inside.max_idle c.args.self.now (Finished c.into_outputs.result) c.self.view_is (sym c.take.ensures.value ∙ c.in-Some.is)
    (finishes g.C.Clock.reads g.W.Work.polls g.W.Work.gives c.in-Some.run' c.self.inside.clock c.into_outputs.result (sym c.unfinished.ensures ∙ c.if-unfinished-eq0.true) c.into_outputs.ensures)

pub returns-then-idle-self-clause-value : goal.returns-then-idle-self-clause-value
returns-then-idle-self-clause-value g c =
    driver_gives g.C.Clock.reads g.W.Work.polls g.W.Work.gives c.self.inside.run c.in-Some.run' c.self.inside.clock c.self.inside.idle c.self.inside.max_idle c.args.self.now (Stalled c.unfinished-then-idle-self.result) c.self.view_is (sym c.take.ensures.value ∙ c.in-Some.is)
    (stalls g.C.Clock.reads g.W.Work.polls g.W.Work.gives c.in-Some.run' c.turn-turn.new.self c.self.inside.clock c.turn-turn.new.clock c.self.inside.idle c.self.inside.max_idle c.unfinished-then-idle-self.result c.turn-turn.result
    c.turn-turn.ensures c.self.invariant (subst (λ n. c.self.inside.max_idle ≤ n) c.idle_after-idle.ensures c.if-idle-self.true) (λ none. c.if-unfinished-eq0.false (c.unfinished.ensures ∙ none)) c.unfinished-then-idle-self.ensures)

pub returns-clause-same : goal.returns-clause-same
returns-clause-same g c =
    subst (λ (p : Poll (Ran g.row.W-Out.Denot)). OnPending p ((x : Ran g.row.W-Out.Denot) → RanGives g.C.Clock.reads g.W.Work.polls g.W.Work.gives (Some c.turn-turn.new.self) c.turn-turn.new.clock c.idle_after-idle.result c.self.inside.max_idle x → DriverGives g.C.Clock.reads g.W.Work.polls g.W.Work.gives c.args.self.now x)) (sym c.yield_now.ensures.pending)
    (λ x gave. driver_gives g.C.Clock.reads g.W.Work.polls g.W.Work.gives c.self.inside.run c.in-Some.run' c.self.inside.clock c.self.inside.idle c.self.inside.max_idle c.args.self.now x c.self.view_is (sym c.take.ensures.value ∙ c.in-Some.is)
    (given_before g.C.Clock.reads g.W.Work.polls g.W.Work.gives c.in-Some.run' c.turn-turn.new.self c.self.inside.clock c.turn-turn.new.clock c.self.inside.idle c.self.inside.max_idle c.turn-turn.result c.turn-turn.ensures x
    (subst (λ n. RanGives g.C.Clock.reads g.W.Work.polls g.W.Work.gives (Some c.turn-turn.new.self) c.turn-turn.new.clock n c.self.inside.max_idle x) c.idle_after-idle.ensures gave)))

pub returns-clause-turned : goal.returns-clause-turned
returns-clause-turned g c =
    subst (λ (p : Poll (Ran g.row.W-Out.Denot)). OnPending p (OneTurn g.C.Clock.reads g.W.Work.polls g.W.Work.gives c.args.self.now (record { tasks = Some c.turn-turn.new.self; clock = c.turn-turn.new.clock; idle = c.idle_after-idle.result; max_idle = c.self.inside.max_idle }))) (sym c.yield_now.ensures.pending)
    (one_turn g.C.Clock.reads g.W.Work.polls g.W.Work.gives c.self.inside.run c.in-Some.run' c.turn-turn.new.self c.turn-turn.result c.self.inside.clock c.turn-turn.new.clock c.self.inside.idle c.idle_after-idle.result c.self.inside.max_idle c.args.self.now
    c.self.view_is (sym c.take.ensures.value ∙ c.in-Some.is) (λ none. c.if-unfinished-eq0.false (c.unfinished.ensures ∙ none)) c.turn-turn.ensures c.idle_after-idle.ensures)
