-- Which tasks are of one place.
use Rattle.std.specs.Prelude.{ℕ, List, [], ◌∷◌, ◌++◌, nat_le, Bool, true, false, ◌&&◌, codes, decimal, if◌then◌else◌}
use Rattle.std.specs.Str.{bytes_eq}
use Rattle.tk_ids.specs.declared.info.TaskInfo.{TaskInfo}
use Rattle.tk_ids.specs.declared.location.Location.{Location}
use Rattle.tk_stream.specs.Spelling.{kind_text}

-- a decimal digit
abbrev pub is_digit : ℕ → Bool
is_digit c = nat_le 48 c && nat_le c 57

-- a text that stands after a digit, or doesn't, with each run of digits read as #
abbrev pub digits_read : Bool → List ℕ → List ℕ
digits_read after [] = []
digits_read after (c ∷ cs) =
    if is_digit c then (if after then digits_read true cs else 35 ∷ digits_read true cs) else c ∷ digits_read false cs

-- a text with each run of digits read as #
abbrev pub without_numbers : List ℕ → List ℕ
without_numbers text = digits_read false text

-- a place in a source file: its file, line and column
abbrev pub location_text : Location → List ℕ
location_text at = at.file ++ (58 ∷ decimal at.line ++ (58 ∷ decimal at.column))

-- a task has no name of its own: one that was given none is called by where it was spawned
abbrev pub is_unnamed : TaskInfo → Bool
is_unnamed info = bytes_eq info.name (location_text info.location)

-- the name of a task but for numbers, after a word. If it has no name of its own, nothing
abbrev pub name_words : TaskInfo → List ℕ
name_words info = if is_unnamed info then [] else codes " name " ++ without_numbers info.name

-- the place of a task, as all outlets write it: its kind, where it was spawned, and its name but for numbers if it has one of its own. Tasks that one
-- line spawns are of one place
abbrev pub place_of : TaskInfo → List ℕ
place_of info = kind_text info.kind ++ (codes " at " ++ (location_text info.location ++ name_words info))
