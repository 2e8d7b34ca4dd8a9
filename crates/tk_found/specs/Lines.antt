-- The lines of what is odd: a line for each finding, worst first, its words and numbers, and at the end its place.
use Rattle.std.specs.Prelude.{ℕ, ◌+◌, List, [], ◌∷◌, ◌++◌, codes, decimal, flat_map, Option, Some, None}
use Rattle.tk_ids.specs.Ids.{id_text}
use Rattle.tk_report.specs.Report.{line}
use Rattle.tk_odd.specs.declared.finding.Finding.{Finding}
use Rattle.tk_odd.specs.declared.finding.OddKind.{OddKind}
use Rattle.tk_odd.specs.Findings.{Placed, Told}
use Rattle.tk_odd.specs.Words.{advice_of, kinds, name_of, shape_of, when_word}
use Rattle.tk_odd.specs.declared.words.Shape.{Shape}
use Rattle.tk_odd.specs.declared.words.Shape.TheVariants.{Held, Alone, Stretch, Lasting, Longest, Share}

-- a number after its word
abbrev pub pair : List ℕ → ℕ → List (List ℕ) → List (List ℕ)
pair word n words = word ∷ decimal n ∷ words

-- the numbers of a finding, each after its word
abbrev pub figures_of : Shape → Finding → List (List ℕ)
figures_of Held x =
    pair (codes "held") x.figure (pair (codes "alone") x.still (pair (codes "longest") x.longest
    (pair (codes "since") x.since (pair (codes "until") x.until (pair (codes "tasks") x.tasks [])))))
figures_of Alone x = pair (codes "alone") x.figure (pair (codes "longest") x.longest [])
figures_of Stretch x = pair (codes "for") x.figure (pair (codes "since") x.since (pair (codes "until") x.until []))
figures_of Lasting x = pair (codes "for") x.figure (pair (codes "tasks") x.tasks [])
figures_of Longest x = pair (codes "longest") x.figure []
figures_of Share x = pair (codes "own") x.figure (pair (codes "of") x.of (pair (codes "tasks") x.tasks []))

-- the task to look at, and its place, where a finding is about tasks
abbrev pub task_words : Option ℕ → List ℕ → List (List ℕ)
task_words None place = []
task_words (Some task) place = codes "task" ∷ id_text task ∷ codes "kind" ∷ place ∷ []

-- the line of the finding that stands at this number
abbrev pub finding_line : ℕ → Placed → List ℕ
finding_line n (place, x) =
    line (codes "finding") (decimal n ∷ name_of x.kind ∷ when_word x.is_now ∷ (figures_of (shape_of x.kind) x ++ task_words x.task place))

-- below a finding, who waited longest for it: how long, and their place
abbrev pub whom_line : Option (List ℕ × ℕ) → List ℕ
whom_line None = []
whom_line (Some (victim, time)) = line (codes "  whom") (decimal time ∷ codes "kind" ∷ victim ∷ [])

-- the lines of the finding that stands at this number
abbrev pub lines_at : ℕ → Told → List ℕ
lines_at n (x, victim) = finding_line n x ++ whom_line victim

-- the lines of findings, numbered from this number on
abbrev pub lines_from : ℕ → List Told → List ℕ
lines_from n [] = []
lines_from n (x ∷ xs) = lines_at n x ++ lines_from (n + 1) xs

-- the lines of all findings, numbered from 1
abbrev pub finding_lines : List Told → List ℕ
finding_lines list = lines_from 1 list

-- ---- what there is to find

-- the line of a kind, after two spaces: its name, and what to do
abbrev pub kind_line : OddKind → List ℕ
kind_line kind = codes "  " ++ (name_of kind ++ (codes ": " ++ (advice_of kind ++ 10 ∷ [])))

-- the lines of all kinds
abbrev pub kind_lines : List ℕ
kind_lines = flat_map kind_line kinds
