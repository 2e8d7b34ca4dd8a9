use Rattle.std.proofs.Common.{◌≡◌, ◌≤◌, ◌==◌}
use Rattle.tk_compare.specs.Changes.{change_of}
use Rattle.tk_compare.specs.Lines.{rank_of}
use Rattle.tk_compare.proofs.CountLemmas.{count_to}
use Rattle.tk_compare.proofs.text.count_at.Given as goal

-- those so far are counted, which are no more than they are
abbrev pub invariant-loop-at : goal.invariant-loop-at
invariant-loop-at l = (l.sum ≡ count_to (λ x. rank_of (change_of l.margin l.spans x.1) == l.rank) l.places l.at) × (l.sum ≤ l.at)
