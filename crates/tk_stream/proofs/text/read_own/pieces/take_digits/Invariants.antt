use Rattle.std.proofs.Common.{◌≡◌, ◌<◌, ◌++◌, decimal, drop}
use Rattle.tk_stream.proofs.text.read_own.pieces.take_digits.Given as goal

abbrev pub invariant-loop-at : goal.invariant-loop-at
invariant-loop-at l = record { positive : 0 < l.n; whole : decimal l.n ++ drop l.at l.bytes ≡ decimal l.initial.n ++ l.bytes }
