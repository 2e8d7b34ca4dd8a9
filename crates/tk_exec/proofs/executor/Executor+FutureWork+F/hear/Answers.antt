use Rattle.std.proofs.Common.{◌≡◌, ℕ, refl, subst, ◌∙◌, length, arith}
use Rattle.tk_exec.specs.Futures.{HearBelow}
use Rattle.tk_exec.proofs.OrderLemmas.{whole}
use Rattle.tk_exec.proofs.FutureLemmas.{hear_none, hear_more}
use Rattle.tk_exec.proofs.executor.Executor+FutureWork+F.hear.Goals as goal

pub loop-place-init : goal.loop-place-init
loop-place-init g c = (hear_none c.args.moment c.args.self.now.seats, refl)

pub loop-place-preserved : goal.loop-place-preserved
loop-place-preserved g c = (
  hear_more c.args.moment c.loop-place.place c.args.self.now.seats c.loop-place.self.seats c.hear_at.new.self.seats c.hear_at.result c.loop-place.invariant.0 c.hear_at.ensures.heard.0 c.hear_at.ensures.heard.1,
  c.hear_at.ensures.next ∙ c.loop-place.invariant.1,
)

pub returns : goal.returns
returns g c =
    let all = whole c.self.inside.tasks.slots c.self.inside.order.entries c.self.inside.next c.self.inside.unfinished c.self.invariant c.self.inside.next c.args.self.now c.self.view_is in
    let end : c.loop-place.place ≡ length c.args.self.now.seats = omega (arith, all, c.len-place-end.ensures.len, c.loop-place.auto.place-end, c.loop-place-test.false) in
    record { next = c.loop-place.invariant.1; each = subst (λ (n : ℕ). HearBelow n c.args.self.now.seats c.args.moment c.loop-place.self.seats) end c.loop-place.invariant.0 }
