-- What a stream says up to a moment.
use Rattle.std.specs.Prelude.{◌≡◌, ℕ, List, [], ◌∷◌, ◌++◌, Bool, true, false, not, nat_lt, Option, Some, None, if◌then◌else◌, Result, Ok, Err}
use Rattle.std.specs.List.{list_all}
use Rattle.std.specs.Option.{option_map_or}
use Rattle.tk_stream.specs.declared.error.LineError.{LineError}
use Rattle.tk_stream.specs.Lines.{LineView}
use Rattle.tk_stream.specs.Reading.{line_of_text}
use Rattle.tk_stream.specs.Spelling.{line_end}
use Rattle.tk_client.specs.Meaning.{cut}

-- the moment of a line that was read, in nanoseconds; what is no line has none
abbrev pub moment_read : Result LineView LineError → Option ℕ
moment_read (Ok line) = Some line.now
moment_read (Err fault) = None

-- the moment of a text as a line of a stream
unfoldable pub moment : List ℕ → Option ℕ
moment text = moment_read (line_of_text text)

-- a line is later than a moment where it has one, and that is greater
unfoldable pub is_later : ℕ → List ℕ → Bool
is_later until line = option_map_or (nat_lt until) (moment line) false

-- the lines before the first that is later, each with its end
abbrev pub lines_until : ℕ → List (List ℕ) → List ℕ
lines_until until [] = []
lines_until until (line ∷ lines) = if is_later until line then [] else line ++ line_end ∷ lines_until until lines

-- the front of a text up to a moment: its whole lines before the first that is later. With no moment it is all of the text
abbrev pub front : Option ℕ → List ℕ → List ℕ
front None text = text
front (Some until) text = lines_until until (cut text).0

-- ---- what laws say of it

-- a text begins with these bytes
abbrev pub BeginsWith : List ℕ → List ℕ → Type 0
BeginsWith text bytes = (rest : List ℕ) × (text ≡ bytes ++ rest)

-- no line is later than a moment
abbrev pub none_later : ℕ → List (List ℕ) → Bool
none_later until lines = list_all (λ line. not (is_later until line)) lines

-- there is no line, or the first is later than a moment
abbrev pub BeginLater : ℕ → List (List ℕ) → Type 0
BeginLater until [] = Unit {0}
BeginLater until (line ∷ lines) = is_later until line ≡ true
