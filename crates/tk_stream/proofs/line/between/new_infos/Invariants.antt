use Rattle.std.proofs.Common.{◌≡◌, take}
use Rattle.tk_stream.specs.Lines.{new_infos}
use Rattle.tk_stream.proofs.line.between.new_infos.Given as goal

abbrev pub invariant-loop-i : goal.invariant-loop-i
invariant-loop-i g l = l.list.items ≡ new_infos g.T.Item.id_of g.T.Described.info_of l.old (take l.i l.new)
