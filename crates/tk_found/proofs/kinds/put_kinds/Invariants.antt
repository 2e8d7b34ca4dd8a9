use Rattle.std.proofs.Common.{take}
use Rattle.std.specs.Prelude.{flat_map, string_bytes}
use Rattle.tk_report.specs.Pieces.{Puts}
use Rattle.tk_found.specs.Lines.{kind_line}
use Rattle.tk_found.proofs.kinds.put_kinds.Given as goal

-- the lines of those so far were put
abbrev pub invariant-loop-kind : goal.invariant-loop-kind
invariant-loop-kind l = Puts (string_bytes l.initial.out) (string_bytes l.out) (flat_map kind_line (take l.kind-index l.kind-items))
