use Rattle.std.proofs.Common.{◌≡◌, ◌≤◌, ◌==◌}
use Rattle.tk_compare.specs.Found.{rank_of, standing_of}
use Rattle.tk_compare.proofs.CountLemmas.{count_to}
use Rattle.tk_compare.proofs.found.count.Given as goal

-- those so far are counted, which are no more than they are
abbrev pub invariant-loop-at : goal.invariant-loop-at
invariant-loop-at l = (l.sum ≡ count_to (λ x. rank_of (standing_of x.1) == l.rank) l.findings l.at) × (l.sum ≤ l.at)
