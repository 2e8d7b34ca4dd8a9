-- The sixteen words of a histogram's row. Inner: no crate above cites it.
use Rattle.std.specs.Prelude.{ℕ, List, ◌∷◌}
use Rattle.tk_core.specs.declared.times.row.TimesRow.{TimesRow}

-- the handles, the longest time, and the counts
abbrev pub words_of : TimesRow → List ℕ
words_of row = row.handles ∷ row.longest ∷ row.counts
