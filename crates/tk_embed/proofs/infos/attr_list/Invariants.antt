use Rattle.std.proofs.Common.{◌≡◌, map, take}
use Rattle.tk_embed.specs.Entries.{attr_info}
use Rattle.tk_embed.proofs.infos.attr_list.Given as goal

abbrev pub invariant-loop-i : goal.invariant-loop-i
invariant-loop-i l = l.list.items ≡ map (attr_info l.text) (take l.i l.entries)
