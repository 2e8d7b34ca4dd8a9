-- What is kept of the bytes that a reader gives, piece by piece.
use Rattle.std.specs.Prelude.{◌≡◌, ℕ, ◌+◌, ◌≤◌, List, [], ◌++◌, length, drop, Bool, false, if◌then◌else◌}
use Rattle.std.specs.List.{fold}
use Rattle.std.specs.Io.Iter.{u64_saturate}
use Rattle.tk_client.specs.Meaning.{cut}

-- bytes, and how many lines ended before them: as many as 64 bits hold
pub record LinesView : Type 0 where
  pub bytes : List ℕ
  pub before : ℕ

-- before the first piece
abbrev pub no_lines : LinesView
no_lines = record { bytes = []; before = 0 }

-- without the lines that have ended
abbrev pub unended : LinesView → LinesView
unended v = record { bytes = (cut v.bytes).1; before = u64_saturate (v.before + length (cut v.bytes).0) }

-- with a piece after them
abbrev pub with_piece : List ℕ → LinesView → LinesView
with_piece piece v = record { bytes = v.bytes ++ piece; before = v.before }

-- what is kept once a piece was given: all, or the line that the piece goes on with and those after it
abbrev pub kept_with : Bool → LinesView → List ℕ → LinesView
kept_with all v piece = with_piece piece (if all then v else unended v)

-- what is kept of a stream that came in these pieces
abbrev pub kept_of : List (List ℕ) → LinesView
kept_of pieces = fold (kept_with false) no_lines pieces

-- so many lines end in bytes, and what stands after the last end begins here
abbrev pub IsOpenAt : List ℕ → ℕ → ℕ → Type 0
IsOpenAt bytes ended start = (ended ≡ u64_saturate (length (cut bytes).0)) × (drop start bytes ≡ (cut bytes).1) × (start ≤ length bytes)
