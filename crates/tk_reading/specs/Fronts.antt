-- Fronts of a stream's bytes, and what they come to.
use Rattle.std.specs.Prelude.{◌≡◌, ℕ, ◌<◌, List, [], ◌∷◌, ◌++◌, Option, Some, None}
use Rattle.tk_client.specs.Meaning.{Outcome, goes, stops}
use Rattle.tk_reading.specs.Outcomes.{outcome_of}
use Rattle.tk_stream.specs.Tables.{TablesView}

-- the tables that bytes come to: at a fault those that stood before it
abbrev pub tables_in : Outcome → TablesView
tables_in (goes start lines) = start.tables
tables_in (stops tables lines fault used) = tables

-- how many of their lines are applied
abbrev pub lines_in : Outcome → ℕ
lines_in (goes start lines) = lines
lines_in (stops tables lines fault used) = lines

-- bytes begin with these
pub record IsFront (front bytes : List ℕ) : Type 0 where
  pub rest : List ℕ
  pub whole : bytes ≡ front ++ rest

-- bytes are a front of the next ones, in which at least one line more is applied; where none are next, of all
abbrev pub GoesBefore : List ℕ → List (List ℕ) → List ℕ → Type 0
GoesBefore front [] bytes = IsFront front bytes
GoesBefore front (next ∷ fronts) bytes = IsFront front next × (lines_in (outcome_of front) < lines_in (outcome_of next))

-- rising fronts of bytes
abbrev pub Rise : List (List ℕ) → List ℕ → Type 0
Rise [] bytes = Unit {0}
Rise (front ∷ fronts) bytes = GoesBefore front fronts bytes × Rise fronts bytes

-- how many lines the last of fronts has
abbrev pub last_lines : List (List ℕ) → Option ℕ
last_lines [] = None
last_lines (front ∷ []) = Some (lines_in (outcome_of front))
last_lines (front ∷ next ∷ fronts) = last_lines (next ∷ fronts)
