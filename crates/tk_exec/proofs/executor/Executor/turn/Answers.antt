use Rattle.std.proofs.Common.{◌≡◌, ℕ, refl, ap, subst, ◌∙◌, arith, length}
use Rattle.tk_exec.specs.Seats.{Tasks}
use Rattle.tk_exec.specs.Turns.{Found, Passed}
use Rattle.tk_exec.proofs.OrderLemmas.{whole}
use Rattle.tk_exec.proofs.TurnLemmas.{found_first, found_second, shown_owner, turn_polls, turn_idles}
use Rattle.tk_exec.proofs.executor.Executor.turn.Goals as goal

pub scheduled_between-requires-clause-within : goal.scheduled_between-requires-clause-within
scheduled_between-requires-clause-within g c =
    let all = whole c.self.inside.tasks.slots c.self.inside.order.entries c.self.inside.next c.self.inside.unfinished c.self.invariant c.self.inside.next c.args.self.now c.self.view_is in
    omega (arith, all, c.len-last.ensures.len)

pub poll_at-requires-clause-within : goal.poll_at-requires-clause-within
poll_at-requires-clause-within g c =
    let all = whole c.self.inside.tasks.slots c.self.inside.order.entries c.self.inside.next c.self.inside.unfinished c.self.invariant c.self.inside.next c.args.self.now c.self.view_is in
    let f = c.in-Some.ensures.some in
    omega (arith, all, c.len-last.ensures.len, f.to, f.change.as_long, f.passed.as_long)

pub poll_at-requires-clause-going : goal.poll_at-requires-clause-going
poll_at-requires-clause-going g c =
    let f = c.in-Some.ensures.some in
    shown_owner c.self.inside.next c.in-Some.place c.args.self.now.seats c.scheduled_between.new.self.seats (found_first c.self.inside.next c.len-last.result c.in-Some.place c.args.self.now.seats c.scheduled_between.new.self.seats f)

pub returns-in-Some : goal.returns-in-Some
returns-in-Some g c =
    let begin : c.self.inside.next ≡ c.args.self.now.next = ap (λ (t : Tasks g.row.W.Denot g.row.W-Out.Denot). t.next) c.self.view_is in
    let f = subst (λ (n : ℕ). Found n c.len-last.result c.in-Some.place c.args.self.now.seats c.scheduled_between.new.self.seats) begin c.in-Some.ensures.some in
    turn_polls g.C.Clock.reads g.W.Work.polls g.W.Work.gives c.args.self.now c.scheduled_between.new.self c.poll_at.new.self c.args.clock.now c.poll_at.new.clock c.in-Some.place c.poll_at.result
    (found_first c.args.self.now.next c.len-last.result c.in-Some.place c.args.self.now.seats c.scheduled_between.new.self.seats f) c.poll_at.ensures.polled c.poll_at.ensures.next

pub scheduled_between-requires-2-clause-within : goal.scheduled_between-requires-2-clause-within
scheduled_between-requires-2-clause-within g c =
    let all = whole c.self.inside.tasks.slots c.self.inside.order.entries c.self.inside.next c.self.inside.unfinished c.self.invariant c.self.inside.next c.args.self.now c.self.view_is in
    let p = c.in_default.ensures.none in
    omega (arith, all, c.self.invariant.within, p.as_long)

pub poll_at-requires-in-Some-scheduled_between-clause-within : goal.poll_at-requires-in-Some-scheduled_between-clause-within
poll_at-requires-in-Some-scheduled_between-clause-within g c =
    let all = whole c.self.inside.tasks.slots c.self.inside.order.entries c.self.inside.next c.self.inside.unfinished c.self.invariant c.self.inside.next c.args.self.now c.self.view_is in
    let p = c.in_default.ensures.none in
    let f = c.in-Some-scheduled_between.ensures.some in
    omega (arith, all, c.self.invariant.within, p.as_long, f.to, f.change.as_long, f.passed.as_long)

pub poll_at-requires-in-Some-scheduled_between-clause-going : goal.poll_at-requires-in-Some-scheduled_between-clause-going
poll_at-requires-in-Some-scheduled_between-clause-going g c =
    let f = c.in-Some-scheduled_between.ensures.some in
    shown_owner 0 c.in-Some-scheduled_between.place c.scheduled_between.new.self.seats c.scheduled_between-2.new.self.seats
    (found_first 0 c.self.inside.next c.in-Some-scheduled_between.place c.scheduled_between.new.self.seats c.scheduled_between-2.new.self.seats f)

pub returns-in-Some-scheduled_between : goal.returns-in-Some-scheduled_between
returns-in-Some-scheduled_between g c =
    let all = whole c.self.inside.tasks.slots c.self.inside.order.entries c.self.inside.next c.self.inside.unfinished c.self.invariant c.self.inside.next c.args.self.now c.self.view_is in
    let begin : c.self.inside.next ≡ c.args.self.now.next = ap (λ (t : Tasks g.row.W.Denot g.row.W-Out.Denot). t.next) c.self.view_is in
    let last : c.len-last.result ≡ length c.args.self.now.seats = omega (arith, all, c.len-last.ensures.len) in
    let p = subst (λ (n : ℕ). Passed n (length c.args.self.now.seats) c.args.self.now.seats c.scheduled_between.new.self.seats) begin
    (subst (λ (n : ℕ). Passed c.self.inside.next n c.args.self.now.seats c.scheduled_between.new.self.seats) last c.in_default.ensures.none) in
    let f = subst (λ (n : ℕ). Found 0 n c.in-Some-scheduled_between.place c.scheduled_between.new.self.seats c.scheduled_between-2.new.self.seats) begin c.in-Some-scheduled_between.ensures.some in
    turn_polls g.C.Clock.reads g.W.Work.polls g.W.Work.gives c.args.self.now c.scheduled_between-2.new.self c.poll_at-in-Some-scheduled_between.new.self c.args.clock.now c.poll_at-in-Some-scheduled_between.new.clock c.in-Some-scheduled_between.place c.poll_at-in-Some-scheduled_between.result
    (found_second c.args.self.now.next c.in-Some-scheduled_between.place c.args.self.now.seats c.scheduled_between.new.self.seats c.scheduled_between-2.new.self.seats p f) c.poll_at-in-Some-scheduled_between.ensures.polled c.poll_at-in-Some-scheduled_between.ensures.next

pub returns : goal.returns
returns g c =
    let all = whole c.self.inside.tasks.slots c.self.inside.order.entries c.self.inside.next c.self.inside.unfinished c.self.invariant c.self.inside.next c.args.self.now c.self.view_is in
    let begin : c.self.inside.next ≡ c.args.self.now.next = ap (λ (t : Tasks g.row.W.Denot g.row.W-Out.Denot). t.next) c.self.view_is in
    let last : c.len-last.result ≡ length c.args.self.now.seats = omega (arith, all, c.len-last.ensures.len) in
    let p = subst (λ (n : ℕ). Passed n (length c.args.self.now.seats) c.args.self.now.seats c.scheduled_between.new.self.seats) begin
    (subst (λ (n : ℕ). Passed c.self.inside.next n c.args.self.now.seats c.scheduled_between.new.self.seats) last c.in_default.ensures.none) in
    let q = subst (λ (n : ℕ). Passed 0 n c.scheduled_between.new.self.seats c.scheduled_between-2.new.self.seats) begin c.in_default-scheduled_between.ensures.none in
    turn_idles c.args.self.now c.scheduled_between.new.self c.scheduled_between-2.new.self c.args.clock.now c.args.clock.now p q (c.scheduled_between-2.ensures.next ∙ c.scheduled_between.ensures.next) refl
