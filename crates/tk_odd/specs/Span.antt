-- The lines of a span of a stream: what is found of them is what a client finds that attached then.
use Rattle.std.specs.Prelude.{◌≡◌, ℕ, nat_le, Bool, true, false, not, List, [], ◌∷◌, ◌++◌, Option, Some, None, if◌then◌else◌}
use Rattle.std.specs.List.{list_all, list_any}
use Rattle.std.specs.Option.{option_map_or}
use Rattle.tk_stream.specs.Tables.{TablesView}

-- a line with these tables is at or before a moment
abbrev pub is_by : ℕ → TablesView → Bool
is_by since tables = nat_le tables.now since

-- the same, where there may be no moment: then no line is
abbrev pub is_early : Option ℕ → TablesView → Bool
is_early since tables = option_map_or (λ m. is_by m tables) since false

-- of lines, those from the last one at or before a moment on: the first is left out where a later one is so early. All, where none is so early
abbrev pub lines_since : ℕ → List TablesView → List TablesView
lines_since since [] = []
lines_since since (first ∷ rest) = if list_any (is_by since) rest then lines_since since rest else first ∷ rest

-- the lines of a span since a moment; with no moment all lines
abbrev pub span_of : Option ℕ → List TablesView → List TablesView
span_of None shown = shown
span_of (Some since) shown = lines_since since shown

-- ---- what laws say of it

-- where lines were left out, the span begins with a line at or before the moment
abbrev pub BeginsBy : ℕ → List TablesView → List TablesView → Type 0
BeginsBy since [] span = Unit {0}
BeginsBy since (one ∷ out) [] = ⊥
BeginsBy since (one ∷ out) (first ∷ rest) = is_by since first ≡ true

-- all lines but the first are later than a moment
abbrev pub rest_is_later : ℕ → List TablesView → Bool
rest_is_later since [] = true
rest_is_later since (first ∷ rest) = list_all (λ t. not (is_by since t)) rest

-- lines end with a span: those before it are left out, it begins with a line at or before the moment, and what follows is later
pub record EndsWith (since : ℕ) (shown span : List TablesView) : Type 0 where
  pub left_out : List TablesView
  pub all : shown ≡ left_out ++ span
  pub begins : BeginsBy since left_out span
  pub later : rest_is_later since span ≡ true
