use Rattle.std.proofs.Common.{◌≡◌, ◌+◌, true, false, length, Some, None, sym, ap, ◌∙◌, arith, rules}
use Rattle.std.specs.Prelude.{replicate}
use Rattle.tk_live.specs.Blocks.{is_named}
use Rattle.tk_live.specs.Named.{live_item}
use Rattle.tk_live.proofs.Handing.{handed_none, handed_next, handed_first, handed_second, out_first, out_second, some_none}
use Rattle.tk_live.proofs.join.hand_out.Goals.{in-Some+then-names+in_ok-handed, in-Some+else-names+then-names-2+in_ok-handed-2, in-Some+else-names+else-names-2, in_default-live_waker}
use Rattle.tk_live.proofs.join.hand_out.Goals as goal

pub loop-i-init : goal.loop-i-init
loop-i-init c =
    let wakers = c.args.wakers.now.items in
    let one_long : c.len.result ≡ length wakers = search rules in
    let two_long : c.len-2.result ≡ length wakers = search rules in (
      handed_none c.args.block.now.first c.args.block.now.second wakers c.args.tasks.now.items c.requires c.in-Ok.one.items c.in-Ok-no_wakers.two.items (c.in-Ok.ensures ∙ ap (λ k. replicate k None) one_long)
          (c.in-Ok-no_wakers.ensures ∙ ap (λ k. replicate k None) two_long),
      omega arith,
    )

pub loop-i-preserved : goal.loop-i-preserved
loop-i-preserved c =
    let first = c.args.block.now.first in let second = c.args.block.now.second in
    let wakers = c.args.wakers.now.items in let before = c.args.tasks.now.items in
    let i = c.loop-i.i in
    let now = c.loop-i.tasks.items in let one = c.loop-i.one.items in let two = c.loop-i.two.items in
    let was = c.loop-i.invariant.0 in
    let lt = c.loop-i-test.true in (
      elim c.match-live_waker.branch [
        | in-Some+then-names+in_ok-handed w ↦
            let at : live_item (i + 1) wakers ≡ Some w.in-Some.waker = sym c.live_waker.ensures ∙ w.in-Some.is in
            let named : is_named (i + 1) first ≡ true = sym w.names.ensures ∙ w.if-names.true in
            rw (w.tasks-is, w.one-is, w.two-is)
            (handed_first first second wakers before c.requires i now one two was w.in-Some.waker at w.part_waker.new.tasks.items w.in_ok-handed.handed w.in_ok-handed.ensures.ok (out_first first second (i + 1) named) w.put_seat.new.seats.items named w.put_seat.ensures)
        | in-Some+else-names+then-names-2+in_ok-handed-2 w ↦
            let at : live_item (i + 1) wakers ≡ Some w.in-Some.waker = sym c.live_waker.ensures ∙ w.in-Some.is in
            let unnamed : is_named (i + 1) first ≡ false = sym w.names.ensures ∙ w.if-names.false in
            let named : is_named (i + 1) second ≡ true = sym w.names-else-names.ensures ∙ w.if-names-2.true in
            rw (w.tasks-is, w.one-is, w.two-is)
            (handed_second first second wakers before c.requires i now one two was w.in-Some.waker at w.part_waker-then-names-2.new.tasks.items w.in_ok-handed-2.handed w.in_ok-handed-2.ensures.ok (out_second first second (i + 1) unnamed ∙ named) w.put_seat-then-names-2.new.seats.items unnamed named w.put_seat-then-names-2.ensures)
        | in-Some+else-names+else-names-2 w ↦
            rw (w.tasks-is, w.one-is, w.two-is)
            (handed_next first second wakers before c.requires i now one two was (λ a at. (sym w.names.ensures ∙ w.if-names.false, sym w.names-else-names.ensures ∙ w.if-names-2.false)))
        | in_default-live_waker w ↦
            rw (w.tasks-is, w.one-is, w.two-is)
            (handed_next first second wakers before c.requires i now one two was (λ a at. absurd (some_none a (sym at ∙ (sym c.live_waker.ensures ∙ w.in_default-live_waker.is)))))
      ],
      omega (arith, lt),
    )
