use Rattle.tk_events.proofs.AttrLemmas.{same_names}
use Rattle.tk_events.proofs.new_item.infos_of.Goals as goal

pub unreachable-requires : goal.unreachable-requires
unreachable-requires c =
    let good = same_names c.args.attrs.now c.in_ok-list.list.items c.in_ok-list.ensures.list c.in_ok-list.ensures.attrs in
    let told = rw good at c.new.ensures.attrs in
    let is = c.in-Err.is in
    absurd cc
