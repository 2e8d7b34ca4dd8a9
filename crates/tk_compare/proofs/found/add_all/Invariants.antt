use Rattle.std.proofs.Common.{◌≡◌, ℕ, List, Vec, Global}
use Rattle.tk_series.specs.Series.{series_of}
use Rattle.tk_series.proofs.SeriesLemmas.{so_far}
use Rattle.tk_compare.specs.Found.{both_seen, seen_entry}
use Rattle.tk_compare.specs.Names.{texts}
use Rattle.tk_compare.specs.declared.found.Seen.{Seen}
use Rattle.tk_compare.proofs.found.add_all.Given as goal

-- the findings so far are added
abbrev pub invariant-loop-at : goal.invariant-loop-at
invariant-loop-at l = (xs : List (List ℕ × Seen)) → l.initial.findings ≡ series_of both_seen xs
    → l.findings ≡ so_far both_seen (λ (v : Vec ℕ Global). seen_entry l.side (texts l.loose) (texts l.others) v.items) xs l.own l.at
