-- The line that draws how many tasks waited at each of the last lines.
use Rattle.std.specs.Prelude.{ℕ, ◌+◌, ◌-◌, ◌*◌, ◌/◌, ◌==◌, max, nat_le, if◌then◌else◌, List, [], ◌∷◌, ◌++◌, length, flat_map, codes, decimal}
use Rattle.tk_screen.specs.Screens.{LineView}
use Rattle.tk_frame.specs.Lines.{plain}

-- the greatest of numbers
abbrev pub greatest : List ℕ → ℕ
greatest [] = 0
greatest (n ∷ ns) = max n (greatest ns)

-- of which of eight levels a number is, where the greatest is this: 0 alone is of the lowest, and the greatest of the highest
abbrev pub level_of : ℕ → ℕ → ℕ
level_of most n = if most == 0 then 0 else (7 * n + (most - 1)) / most

-- the mark of a level
abbrev pub level_mark : ℕ → List ℕ
level_mark level =
    if level == 0 then codes "_" else
    (if level == 1 then codes "." else
    (if level == 2 then codes ":" else
    (if level == 3 then codes "-" else
    (if level == 4 then codes "=" else
    (if level == 5 then codes "+" else
    (if level == 6 then codes "*" else codes "#"))))))

-- the mark of a number
abbrev pub mark_of : ℕ → ℕ → List ℕ
mark_of most n = level_mark (level_of most n)

abbrev pub most_text : ℕ → List ℕ
most_text most = codes "  at most " ++ decimal most

-- a mark for each number, and the greatest
abbrev pub course_text : List ℕ → List ℕ
course_text waits = codes "waiting  " ++ (flat_map (mark_of (greatest waits)) waits ++ most_text (greatest waits))

-- how many lines that takes: one line of a stream is no course
abbrev pub course_height : List ℕ → ℕ
course_height waits = if nat_le 2 (length waits) then 1 else 0

abbrev pub course_part : List ℕ → List LineView
course_part waits = if nat_le 2 (length waits) then plain (course_text waits) ∷ [] else []
