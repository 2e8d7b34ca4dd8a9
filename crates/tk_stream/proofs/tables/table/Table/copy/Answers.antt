use Rattle.std.proofs.Common.{ap, ◌∙◌, sym}
use Rattle.tk_stream.specs.Slots.{empty_from}
use Rattle.tk_stream.proofs.SlotLemmas.{same_numbers}
use Rattle.tk_stream.proofs.tables.table.Table.copy.Goals as goal

pub invariant_of-result : goal.invariant_of-result
invariant_of-result g c =
    same_numbers c.self.inside.empty.items c.in_ok-empty.empty.items c.in_ok-empty.ensures.cases.0 ∙ c.self.invariant ∙ ap (empty_from 0) (sym c.in_ok-slots.ensures)
