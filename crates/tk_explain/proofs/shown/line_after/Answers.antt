use Rattle.std.proofs.Common.{◌≡◌, ap, sym, ◌∙◌, arith}
use Rattle.std.specs.Borrow.{Bor}
use Rattle.std.specs.Option.{option_map}
use Rattle.std.specs.Prelude.{ℕ, List, slice_get}
use Rattle.tk_script.specs.Pieces.{pieces_at, pieces_left}
use Rattle.tk_explain.proofs.Told.{first_left, none_left, passes}
use Rattle.tk_explain.proofs.shown.line_after.Goals as goal

pub returns-in_err-next : goal.returns-in_err-next
returns-in_err-next c =
    ap (option_map (λ (l : Bor (List ℕ)). l.now)) c.from_residual.ensures
    ∙ sym (none_left (pieces_at 10 c.args.text.now) c.loop.counter c.args.lines (pieces_left c.loop.rest) c.loop.invariant c.in_err-next.ensures.steps.0 (omega (arith, c.loop-test.true)))

pub loop-preserved : goal.loop-preserved
loop-preserved c = passes (pieces_at 10 c.args.text.now) c.loop.counter (pieces_left c.loop.rest) (pieces_left c.next.new.self) c.in_ok-next.field-0.now c.loop.invariant c.in_ok-next.ensures.steps

pub returns : goal.returns
returns c =
    let all : c.loop.counter ≡ c.args.lines = omega (arith, c.loop-test.false, c.loop.auto.counter-end) in
    first_left (pieces_at 10 c.args.text.now) c.loop.counter (pieces_left c.loop.rest) (pieces_left c.next-2.new.self) c.next-2.result c.loop.invariant c.next-2.ensures.steps
    ∙ ap (slice_get (pieces_at 10 c.args.text.now)) all
