-- What bytes mean to a client: they are cut at each line end, and the lines are taken one after the other.
use Rattle.std.specs.Prelude.{ℕ, ◌+◌, ◌-◌, ◌==◌, List, [], ◌∷◌, ◌++◌, length, Bool, ◌||◌, nat_lt, Option, Some, None, if◌then◌else◌, Result, Ok, Err}
use Rattle.tk_stream.specs.declared.error.LineError.{LineError}
use Rattle.tk_stream.specs.declared.error.LineError.TheVariants as line
use Rattle.tk_stream.specs.Applied.{times_after}
use Rattle.tk_stream.specs.Lines.{LineView}
use Rattle.tk_stream.specs.Reading.{line_of_text}
use Rattle.tk_stream.specs.Spelling.{line_end}
use Rattle.tk_stream.specs.Tables.{TablesView, empty_tables}
use Rattle.tk_stream.specs.Times.{TaskTimes}
use Rattle.tk_client.specs.declared.fault.Fault.{Fault}
use Rattle.tk_client.specs.declared.fault.Fault.TheVariants.{Memory, BadJson, BadShape, Gap, TooLong}
use Rattle.tk_client.specs.Taking.{line_checked}

-- where a client begins to read: tables, the number of the last line (none before the first), the bytes of a line that hasn't
-- ended, and the histograms of poll times that stand beside the tables
pub record Start : Type 0 where
  pub tables : TablesView
  pub last : Option ℕ
  pub part : List ℕ
  pub times : List TaskTimes

-- where a new client begins
abbrev pub empty_start : Start
empty_start = record { tables = empty_tables; last = None; part = []; times = [] }

-- how many bytes a line has at most for a view, a page, a watch and metrics
abbrev pub greatest_line : ℕ
greatest_line = 268435456

-- what bytes come to: they go on to a start, after so many lines, or stop at tables, after so many lines, by a fault, through
-- so many of the bytes
pub data Outcome : Type 0 where
  goes : Start → ℕ → Outcome
  stops : TablesView → ℕ → Fault → ℕ → Outcome

-- ---- one line

-- the fault that a text is no line by
abbrev pub fault_of : LineError → Fault
fault_of line.Memory = Memory
fault_of line.BadJson = BadJson
fault_of line.BadShape = BadShape

-- the number that is expected next
abbrev pub expected : Option ℕ → ℕ
expected None = 1
expected (Some last) = last + 1

-- a first line is a snapshot of any number, or has number 1; a later line has the number after the last one
abbrev pub is_next : Option ℕ → LineView → Bool
is_next None l = l.snapshot || l.seq == 1
is_next (Some last) l = l.seq == last + 1

-- the tables that a line is applied to: a snapshot stands for itself
abbrev pub base_of : TablesView → LineView → TablesView
base_of old l = if l.snapshot then empty_tables else old

-- the histograms that a line is applied to: a snapshot stands for itself
abbrev pub times_base : List TaskTimes → LineView → List TaskTimes
times_base old l = if l.snapshot then [] else old

-- the start after a line that was applied, where these histograms stood beside the tables
abbrev pub start_after : LineView → List TaskTimes → Result TablesView Fault → Result Start Fault
start_after l times (Ok tables) = Ok (record { tables = tables; last = Some l.seq; part = []; times = times_after (times_base times l) l })
start_after l times (Err fault) = Err fault

-- a line that was read is taken where it is the next one
abbrev pub line_read : TablesView → List TaskTimes → Option ℕ → Result LineView LineError → Result Start Fault
line_read tables times last (Ok l) =
    if is_next last l then start_after l times (line_checked (base_of tables l) l) else Err (Gap (expected last) l.seq)
line_read tables times last (Err e) = Err (fault_of e)

-- a whole line, without its end, taken at tables, histograms and the number of the last line
unfoldable pub line_taken : TablesView → List TaskTimes → Option ℕ → List ℕ → Result Start Fault
line_taken tables times last text = line_read tables times last (line_of_text text)

-- ---- the lines of bytes

-- the byte goes in front of the first line, or of the rest where there is no line
abbrev pub in_front : ℕ → List (List ℕ) × List ℕ → List (List ℕ) × List ℕ
in_front b ([], rest) = ([], b ∷ rest)
in_front b (l ∷ ls, rest) = ((b ∷ l) ∷ ls, rest)

-- the lines that end in the bytes, without their ends, and what stands after the last end
abbrev pub cut : List ℕ → List (List ℕ) × List ℕ
cut [] = ([], [])
cut (b ∷ bs) = if b == line_end then ([] ∷ (cut bs).0, (cut bs).1) else in_front b (cut bs)

-- ---- lines one after the other

-- an outcome with so many lines and bytes before it
abbrev pub after : ℕ → ℕ → Outcome → Outcome
after lines bytes (goes s n) = goes s (lines + n)
after lines bytes (stops tables n fault used) = stops tables (lines + n) fault (bytes + used)

-- bytes after the part line are more than a line may have
abbrev pub is_too_long : ℕ → Start → List ℕ → Bool
is_too_long max s bytes = nat_lt max (length (s.part ++ bytes))

-- a line that is too long stops at its first byte too many. The bytes of the part line aren't counted
abbrev pub too_long : ℕ → Start → Outcome
too_long max s = stops s.tables 0 TooLong (max + 1 - length s.part)

-- bytes of a line that hasn't ended
abbrev pub held : ℕ → Start → List ℕ → Outcome
held max s rest = if is_too_long max s rest then too_long max s else goes (record s { part = s.part ++ rest }) 0

-- a line of so many bytes that was taken or not, and what comes of the bytes after it
abbrev pub ended : TablesView → ℕ → Result Start Fault → (Start → Outcome) → Outcome
ended tables bytes (Ok s) more = after 1 bytes (more s)
ended tables bytes (Err fault) more = stops tables 0 fault bytes

-- the lines one after the other, the first after the part line
abbrev pub run : ℕ → Start → List (List ℕ) → List ℕ → Outcome
run max s [] rest = held max s rest
run max s (l ∷ ls) rest =
    if is_too_long max s l then too_long max s else
    ended s.tables (length l + 1) (line_taken s.tables s.times s.last (s.part ++ l)) (λ t. run max t ls rest)

-- what bytes mean to a client that takes lines of at most `max` bytes
abbrev pub meaning : ℕ → Start → List ℕ → Outcome
meaning max s bytes = run max s (cut bytes).0 (cut bytes).1
