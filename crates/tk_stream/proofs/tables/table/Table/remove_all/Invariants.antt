use Rattle.std.proofs.Common.{◌≡◌, take}
use Rattle.tk_stream.specs.Tables.{staying}
use Rattle.tk_stream.proofs.tables.table.Table.remove_all.Given as goal

-- the items of the ids so far have left
abbrev pub invariant-loop-id : goal.invariant-loop-id
invariant-loop-id g l = l.self ≡ staying g.T.Item.id_of (take l.id-index l.ids.keys) l.fn.self
