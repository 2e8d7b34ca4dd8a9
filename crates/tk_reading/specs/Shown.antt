-- What a client shows after each line of a stream: the tables, and the histograms beside them.
use Rattle.std.specs.Prelude.{ℕ, List, [], ◌∷◌, ◌++◌, map, Result, Ok, Err}
use Rattle.tk_client.specs.declared.fault.Fault.{Fault}
use Rattle.tk_client.specs.Changes.{Timed, timed_in}
use Rattle.tk_client.specs.Meaning.{Start, cut, empty_start, line_taken}
use Rattle.tk_stream.specs.Tables.{TablesView}

-- what is shown after a line that was taken, and after the lines after it
abbrev pub timed_by : Result Start Fault → (Start → List Timed) → List Timed
timed_by (Ok s) more = timed_in s ∷ more s
timed_by (Err fault) more = []

-- what is shown after each of these lines, the first after the part line of a start
abbrev pub timed_from : Start → List (List ℕ) → List Timed
timed_from s [] = []
timed_from s (l ∷ ls) = timed_by (line_taken s.tables s.times s.last (s.part ++ l)) (λ t. timed_from t ls)

-- what is shown after each line of a stream's bytes
abbrev pub timed_of : List ℕ → List Timed
timed_of bytes = timed_from empty_start (cut bytes).0

-- the last of these, of which there is one before
abbrev pub last_timed : Timed → List Timed → Timed
last_timed old [] = old
last_timed old (new ∷ seen) = last_timed new seen

-- the tables alone
abbrev pub tables_of : List Timed → List TablesView
tables_of seen = map (λ (t : Timed). t.0) seen

-- the last of tables, of which there are some before
abbrev pub last_shown : TablesView → List TablesView → TablesView
last_shown old [] = old
last_shown old (new ∷ shown) = last_shown new shown

-- the tables after each line of a stream's bytes
abbrev pub shown_of : List ℕ → List TablesView
shown_of bytes = tables_of (timed_of bytes)
