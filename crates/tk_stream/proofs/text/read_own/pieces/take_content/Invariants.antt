use Rattle.std.proofs.Common.{◌≡◌, true, take}
use Rattle.std.specs.List.{list_all}
use Rattle.tk_ids.specs.Names.{is_printable}
use Rattle.tk_stream.specs.Pieces.{is_plain}
use Rattle.tk_stream.proofs.text.read_own.pieces.take_content.Given as goal

abbrev pub invariant-loop-at : goal.invariant-loop-at
invariant-loop-at l = record { plain : list_all is_plain (take l.at l.bytes) ≡ true; printable : list_all is_printable (take l.at l.bytes) ≡ true }
