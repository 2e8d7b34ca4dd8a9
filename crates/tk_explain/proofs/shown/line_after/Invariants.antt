use Rattle.std.specs.Prelude.{◌≡◌, drop}
use Rattle.tk_script.specs.Pieces.{pieces_at, pieces_left}
use Rattle.tk_explain.proofs.shown.line_after.Given as goal

-- so many lines were passed over
abbrev pub invariant-loop : goal.invariant-loop
invariant-loop l = pieces_left l.rest ≡ drop l.counter (pieces_at 10 l.text)
