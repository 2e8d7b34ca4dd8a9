use Rattle.std.proofs.Common.{◌≡◌, ℕ, map, take}
use Rattle.std.specs.Prelude.{flat_map}
use Rattle.tk_page.specs.Charges.{blamed_at, course_of, seen}
use Rattle.tk_page.proofs.blamed.add_all_blamed.Given as goal

-- the places so far
abbrev pub invariant-loop-rank : goal.invariant-loop-rank
invariant-loop-rank l = map seen l.list.items ≡ flat_map (blamed_at l.now l.held (λ (i : ℕ). (course_of l.blame i).kept)) (take l.rank-index l.ranks)
