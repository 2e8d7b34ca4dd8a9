use Rattle.std.proofs.Common.{◌≡◌, ℕ, List}
use Rattle.tk_series.specs.Series.{series_of}
use Rattle.tk_series.proofs.SeriesLemmas.{so_far}
use Rattle.tk_compare.specs.Compared.{held_entry}
use Rattle.tk_compare.specs.Names.{texts}
use Rattle.tk_compare.specs.Spent.{plus}
use Rattle.tk_compare.specs.declared.spent.Compared.{Compared}
use Rattle.tk_compare.proofs.places.add_held.Given as goal

-- the places so far are added
abbrev pub invariant-loop-at : goal.invariant-loop-at
invariant-loop-at l = (xs : List (List ℕ × Compared)) → l.initial.places ≡ series_of plus xs
    → l.places ≡ so_far plus (held_entry l.side (texts l.own) (texts l.loose) (texts l.others)) xs l.all l.at
