use Rattle.std.proofs.Common.{◌≡◌, take}
use Rattle.tk_stream.specs.Slots.{items_in}
use Rattle.tk_stream.specs.Tables.{staying}
use Rattle.tk_stream.proofs.tables.slots.Slots.vacate_all.Given as goal

-- the items of the ids so far have left
abbrev pub invariant-loop-id : goal.invariant-loop-id
invariant-loop-id g l = items_in l.self ≡ staying g.T.Item.id_of (take l.id-index l.ids.keys) (items_in l.fn.self)
