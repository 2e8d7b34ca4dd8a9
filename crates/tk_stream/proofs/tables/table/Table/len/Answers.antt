use Rattle.std.proofs.Common.{◌≡◌, length, ap, arith}
use Rattle.tk_stream.specs.Slots.{items_in}
use Rattle.tk_stream.proofs.SlotLemmas.{counted_as}
use Rattle.tk_stream.proofs.tables.table.Table.len.Goals as goal

pub overflow_sub-result : goal.overflow_sub-result
overflow_sub-result g c = let all = counted_as c.self.inside.slots c.self.inside.empty.items c.self.invariant in omega (arith, all, c.len.ensures.count, c.len-2.ensures, c.self.inside.empty.ok.0)

pub returns-clause-count : goal.returns-clause-count
returns-clause-count g c =
    let all = counted_as c.self.inside.slots c.self.inside.empty.items c.self.invariant in
    let shown : length (items_in c.self.inside.slots) ≡ length c.args.self.now = ap length c.self.view_is in
    omega (arith, all, shown, c.len.ensures.count, c.len-2.ensures, c.self.inside.empty.ok.0)
