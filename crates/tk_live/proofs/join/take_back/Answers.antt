use Rattle.std.proofs.Common.{◌≡◌, ◌+◌, ◌-◌, ◌<◌, length, Some, subst, sym, ◌∙◌, arith, rules}
use Rattle.tk_live.specs.Handed.{TakenBack, AllComeBack}
use Rattle.tk_live.specs.Named.{live_item}
use Rattle.tk_live.proofs.Back.{back_next, come_next, none_comes, may_come, back_one, come_others}
use Rattle.tk_live.proofs.Handing.{some_none}
use Rattle.tk_live.proofs.join.take_back.Goals as goal

pub loop-i-init : goal.loop-i-init
loop-i-init g c =
    let wakers = c.args.wakers.now.items in
    let long : length wakers ≡ c.len-i.result = search rules in (
      λ share before back come. (
        subst (λ n. TakenBack share wakers before n c.args.tasks.now.items) long back,
        subst (λ n. AllComeBack share wakers before n c.args.one.items c.args.two.items) long come,
      ),
      omega (arith, long),
    )

pub take_back_waker-requires : goal.take_back_waker-requires
take_back_waker-requires g c =
    let wakers = c.args.wakers.now.items in
    let s = c.loop-i.i in let i = s - 1 in
    let next : i + 1 ≡ s = omega (arith, c.loop-i-test.true) in
    let lt : i < length wakers = omega (arith, c.loop-i-test.true, c.loop-i.invariant.1) in
    let r = c.requires in
    let was = c.loop-i.invariant.0 r.share r.before r.back r.come in
    may_come r.share wakers r.before i c.loop-i.tasks.items c.loop-i.one.items c.loop-i.two.items lt (subst (λ n. TakenBack r.share wakers r.before n c.loop-i.tasks.items) (sym next) was.0)
    (subst (λ n. AllComeBack r.share wakers r.before n c.loop-i.one.items c.loop-i.two.items) (sym next) was.1) c.in-Some.waker (sym c.live_waker.ensures ∙ c.in-Some.is) c.in-Some-take_either.handed (sym c.take_either.ensures.taken ∙ c.in-Some-take_either.is)

pub loop-i-preserved-in-Some-take_either : goal.loop-i-preserved-in-Some-take_either
loop-i-preserved-in-Some-take_either g c =
    let wakers = c.args.wakers.now.items in
    let s = c.loop-i.i in let i = s - 1 in
    let next : i + 1 ≡ s = omega (arith, c.loop-i-test.true) in
    let lt : i < length wakers = omega (arith, c.loop-i-test.true, c.loop-i.invariant.1) in
    let tasks = c.loop-i.tasks.items in let one = c.loop-i.one.items in let two = c.loop-i.two.items in
    let at : live_item (i + 1) wakers ≡ Some c.in-Some.waker = sym c.live_waker.ensures ∙ c.in-Some.is in
    let taken = sym c.take_either.ensures.taken ∙ c.in-Some-take_either.is in (
      λ share before back come.
          let was = c.loop-i.invariant.0 share before back come in
          let b = subst (λ n. TakenBack share wakers before n tasks) (sym next) was.0 in
          let m = subst (λ n. AllComeBack share wakers before n one two) (sym next) was.1 in (
            back_one share wakers before i tasks one two lt b m c.in-Some.waker at c.in-Some-take_either.handed taken c.take_back_waker.new.tasks.items c.take_back_waker.ensures,
            come_others share wakers before i tasks one two lt b m c.take_either.new.one.items c.take_either.new.two.items c.take_either.ensures.others,
          ),
      omega (arith, c.loop-i.invariant.1),
    )

pub loop-i-preserved-in_default-take_either : goal.loop-i-preserved-in_default-take_either
loop-i-preserved-in_default-take_either g c =
    let wakers = c.args.wakers.now.items in
    let s = c.loop-i.i in let i = s - 1 in
    let next : i + 1 ≡ s = omega (arith, c.loop-i-test.true) in
    let lt : i < length wakers = omega (arith, c.loop-i-test.true, c.loop-i.invariant.1) in
    let tasks = c.loop-i.tasks.items in let one = c.loop-i.one.items in let two = c.loop-i.two.items in (
      λ share before back come.
          let was = c.loop-i.invariant.0 share before back come in
          let b = subst (λ n. TakenBack share wakers before n tasks) (sym next) was.0 in
          let m = subst (λ n. AllComeBack share wakers before n one two) (sym next) was.1 in (
            back_next share wakers before i tasks one two lt b m (λ a at. none_comes share wakers before i tasks one two lt b m a at (sym c.take_either.ensures.taken ∙ c.in_default-take_either.is)),
            come_others share wakers before i tasks one two lt b m c.take_either.new.one.items c.take_either.new.two.items c.take_either.ensures.others,
          ),
      omega (arith, c.loop-i.invariant.1),
    )

pub loop-i-preserved : goal.loop-i-preserved
loop-i-preserved g c =
    let wakers = c.args.wakers.now.items in
    let s = c.loop-i.i in let i = s - 1 in
    let next : i + 1 ≡ s = omega (arith, c.loop-i-test.true) in
    let lt : i < length wakers = omega (arith, c.loop-i-test.true, c.loop-i.invariant.1) in
    let tasks = c.loop-i.tasks.items in let one = c.loop-i.one.items in let two = c.loop-i.two.items in (
      λ share before back come.
          let was = c.loop-i.invariant.0 share before back come in
          let b = subst (λ n. TakenBack share wakers before n tasks) (sym next) was.0 in
          let m = subst (λ n. AllComeBack share wakers before n one two) (sym next) was.1 in (
            back_next share wakers before i tasks one two lt b m (λ a at. absurd (some_none a (sym at ∙ (sym c.live_waker.ensures ∙ c.in_default.is)))),
            come_next share wakers before i tasks one two lt b m,
          ),
      omega (arith, c.loop-i.invariant.1),
    )
