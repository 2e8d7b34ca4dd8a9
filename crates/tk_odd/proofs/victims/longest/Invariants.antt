use Rattle.std.proofs.Common.{◌≡◌, take, None}
use Rattle.std.specs.Prelude.{fold}
use Rattle.std.specs.Option.{option_map}
use Rattle.tk_odd.specs.Victims.{most_with}
use Rattle.tk_odd.proofs.victims.longest.Given as goal

-- the longest so far
abbrev pub invariant-loop-i : goal.invariant-loop-i
invariant-loop-i l = option_map (λ v. (v.place.now, v.time)) l.most ≡ fold (most_with l.place) None (take l.i l.pairs)
