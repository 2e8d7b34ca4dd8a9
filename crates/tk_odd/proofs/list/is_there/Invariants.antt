use Rattle.std.proofs.Common.{◌≡◌, false, map, take}
use Rattle.std.specs.Str.{bytes_eq}
use Rattle.std.specs.List.{list_any}
use Rattle.tk_odd.proofs.list.is_there.Given as goal

-- none so far
abbrev pub invariant-loop-other : goal.invariant-loop-other
invariant-loop-other l = list_any (λ p. bytes_eq p l.place) (map (λ v. v.items) (take l.other-index l.places)) ≡ false
