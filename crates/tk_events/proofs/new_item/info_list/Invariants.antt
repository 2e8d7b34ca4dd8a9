use Rattle.std.proofs.Common.{◌≡◌, take}
use Rattle.tk_events.specs.Items.{infos_of}
use Rattle.tk_events.proofs.new_item.info_list.Given as goal

abbrev pub invariant-loop-attr : goal.invariant-loop-attr
invariant-loop-attr l = l.list.items ≡ infos_of (take l.attr-index l.attr-items)
