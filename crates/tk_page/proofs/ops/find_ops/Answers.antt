use Rattle.std.proofs.Common.{◌∙◌, ap, sym, arith}
use Rattle.tk_page.specs.Items.{is_of}
use Rattle.tk_page.proofs.LoopLemmas.{found_next, found_same, past_end}
use Rattle.tk_page.proofs.ops.find_ops.Goals.{in-Some+then-is_of+in_ok-push, in-Some+else-is_of, in_default}
use Rattle.tk_page.proofs.ops.find_ops.Goals as goal

pub loop-place-preserved : goal.loop-place-preserved
loop-place-preserved c =
    let xs = c.args.tables.now.ops in
    let i = c.loop-place.place in
    elim c.match-op_at.branch [
      | in-Some+then-is_of+in_ok-push w ↦
          found_next (λ t. t.now) (is_of c.args.resource.now c.args.is_open) xs i w.in-Some.op c.loop-place.found.items c.match-op_at.found.items w.in-Some.ensures
          (sym w.is_of.ensures ∙ w.if-is_of.true) c.loop-place.invariant (ap (λ v. v.items) w.found-is ∙ w.in_ok-push.ensures.items)
      | in-Some+else-is_of w ↦
          found_same (λ t. t.now) (is_of c.args.resource.now c.args.is_open) xs i w.in-Some.op.now c.loop-place.found.items c.match-op_at.found.items w.in-Some.ensures
          (sym w.is_of.ensures ∙ w.if-is_of.false) c.loop-place.invariant (ap (λ v. v.items) w.found-is)
      | in_default w ↦ absurd (omega (arith, past_end xs i w.in_default.ensures))
    ]
