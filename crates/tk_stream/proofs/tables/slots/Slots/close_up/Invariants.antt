use Rattle.std.proofs.Common.{◌≡◌, length, Some, nat_eq, map}
use Rattle.indexmap.specs.IndexMap.{get}
use Rattle.tk_stream.specs.Slots.{items_in}
use Rattle.tk_stream.proofs.SlotIds.{IsNoted}
use Rattle.tk_stream.proofs.tables.slots.Slots.close_up.Given as goal

-- the items stand in the first slots, and their numbers are noted so far
abbrev pub invariant-loop-slot : goal.invariant-loop-slot
invariant-loop-slot g l = record {
  full : l.self-inside.slots.items ≡ map Some (items_in l.fn.self);
  all : l.slot-end ≡ length l.self-inside.slots.items;
  noted : IsNoted g.T.Item.id_of l.fn.self l.self-inside.slots.items l.slot (get nat_eq l.self-inside.by_id);
}
