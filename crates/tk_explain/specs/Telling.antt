-- What is told of the line that has a fault.
use Rattle.std.specs.Prelude.{ℕ, ◌+◌, ◌-◌, List, [], ◌∷◌, ◌++◌, map, take, length, nat_lt, nat_le, if◌then◌else◌, codes, decimal, Option, None, Some, Result, Err, slice_get}
use Rattle.std.specs.Io.Iter.{u64_saturate}
use Rattle.std.specs.Io.KnownBytes.{Appends, Keeps}
use Rattle.tk_fault.specs.declared.fault.AppFault.{AppFault}
use Rattle.tk_fault.specs.declared.fault.AppFault.TheVariants as faults
use Rattle.tk_explain.specs.Keeping.{LinesView}
use Rattle.tk_script.specs.Pieces.{pieces_at}

-- a byte as it is shown: a dot where it is no ASCII text
abbrev pub shown_byte : ℕ → ℕ
shown_byte b = if nat_le 32 b then (if nat_lt b 127 then b else 46) else 46

-- what stands after the front of a line that has more bytes
abbrev pub dots : List ℕ → List ℕ
dots line = if nat_lt 72 (length line) then codes "..." else []

-- a line as it is shown: the front of it
abbrev pub shown : List ℕ → List ℕ
shown line = map shown_byte (take 72 line) ++ dots line

-- a line by its number, from 1
abbrev pub line_text : ℕ → List ℕ → List ℕ
line_text number line = (codes "  " ++ (decimal number ++ codes " | ")) ++ (shown line ++ 10 ∷ [])

-- the line of a text that stands after so many others, if there is one
abbrev pub line_after : List ℕ → ℕ → Option (List ℕ)
line_after text lines = slice_get (pieces_at 10 text) lines

-- where a line has this number it was told, and then a rule; where none has, nothing was
abbrev pub TellsLine : ℕ → Option (List ℕ) → Option (List ℕ) → Option (List ℕ) → Type 0
TellsLine number (Some line) old new = (rule : List ℕ) × Appends old new (line_text number line ++ rule)
TellsLine number None old new = Keeps old new

-- of a stream whose last lines are kept the line that has the fault was told: the one after those that were applied
abbrev pub TellsFault : {X : Type 0} → LinesView → Result X AppFault → Option (List ℕ) → Option (List ℕ) → Type 0
TellsFault kept (Err (faults.Stream lines fault)) old new = TellsLine (u64_saturate (lines + 1)) (line_after kept.bytes (lines - kept.before)) old new
TellsFault kept other old new = Unit {0}

-- of a script that is kept the line that stopped it was told
abbrev pub TellsStop : {X : Type 0} → LinesView → Result X AppFault → Option (List ℕ) → Option (List ℕ) → Type 0
TellsStop kept (Err (faults.Script number name)) old new = TellsLine number (line_after kept.bytes (number - 1)) old new
TellsStop kept other old new = Unit {0}
