use Rattle.std.proofs.Common.{take}
use Rattle.std.specs.Prelude.{flat_map}
use Rattle.tk_report.specs.Pieces.{Puts}
use Rattle.tk_metrics.specs.Samples.{escaped_byte}
use Rattle.tk_metrics.proofs.text.put_escaped.Given as goal

-- the bytes so far stand there, escaped
abbrev pub invariant-loop-byte : goal.invariant-loop-byte
invariant-loop-byte l = Puts l.initial.out.items l.out.items (flat_map escaped_byte (take l.byte-index l.text))
