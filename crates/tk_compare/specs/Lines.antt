-- The text of what changed between two streams: a sentence, a line for each finding, and a line for each place that changed.
use Rattle.std.specs.Prelude.{ℕ, ◌*◌, ◌/◌, ◌%◌, ◌==◌, List, [], ◌∷◌, ◌++◌, codes, decimal, filter, flat_map, length, if◌then◌else◌}
use Rattle.tk_core.specs.Lists.{capped}
use Rattle.tk_report.specs.Report.{line}
use Rattle.tk_compare.specs.Below.{below}
use Rattle.tk_compare.specs.Changes.{change_of, rate, rate_in_hundredths}
use Rattle.tk_compare.specs.declared.change.Change.{Change}
use Rattle.tk_compare.specs.declared.change.Change.TheVariants.{Worse, New, Better, Gone, Same}
use Rattle.tk_compare.specs.declared.change.Margin.{Margin}
use Rattle.tk_compare.specs.declared.change.Spans.{Spans}
use Rattle.tk_compare.specs.declared.spent.Compared.{Compared}

-- what a number is to what it was, in hundredths: rounded down, and at most 2^64 - 1
abbrev pub hundredths : ℕ → ℕ → ℕ
hundredths before after = capped ((after * 100) / before)

-- hundredths
abbrev pub hundredths_text : ℕ → List ℕ
hundredths_text n = decimal (n / 100) ++ (codes "." ++ (decimal ((n / 10) % 10) ++ decimal (n % 10)))

-- what a number is to what it was. To one that was 0 there is no ratio
abbrev pub ratio_text : ℕ → ℕ → List ℕ
ratio_text before after = if before == 0 then codes "-" else codes "x" ++ hundredths_text (hundredths before after)

-- a number before and after, and their ratio, after their word
abbrev pub words_of : List ℕ → ℕ → ℕ → List (List ℕ)
words_of word before after = word ∷ decimal before ∷ decimal after ∷ ratio_text before after ∷ []

-- the same of numbers in hundredths
abbrev pub words_in_hundredths : List ℕ → ℕ → ℕ → List (List ℕ)
words_in_hundredths word before after = word ∷ hundredths_text before ∷ hundredths_text after ∷ ratio_text before after ∷ []

-- the line of a place, after a word: how many polls started in a second, how long they ran in it, how long tasks waited in it, and how long
-- others waited in it while they ran long
abbrev pub place_line : Spans → List ℕ → List ℕ × Compared → List ℕ
place_line spans word x = line word
    (words_in_hundredths (codes "polls") (rate_in_hundredths spans.before x.1.before.polls) (rate_in_hundredths spans.after x.1.after.polls)
    ++ (words_of (codes "ran") (rate spans.before x.1.before.ran) (rate spans.after x.1.after.ran)
    ++ (words_of (codes "waited") (rate spans.before x.1.before.waited) (rate spans.after x.1.after.waited)
    ++ (words_of (codes "held-up") (rate spans.before x.1.before.held) (rate spans.after x.1.after.held)
    ++ (codes "kind" ∷ x.0 ∷ [])))))

-- the same, and below it its histograms
abbrev pub place_text : Spans → List ℕ → List ℕ × Compared → List ℕ
place_text spans word x = place_line spans word x ++ below x.1

-- where the lines of a change stand: what is worse comes first, what is gone last. What is the same has no line
abbrev pub rank_of : Change → ℕ
rank_of Worse = 1
rank_of New = 2
rank_of Better = 3
rank_of Gone = 4
rank_of Same = 5

-- the word of a change
abbrev pub word_of : Change → List ℕ
word_of Worse = codes "worse"
word_of New = codes "new"
word_of Better = codes "better"
word_of Gone = codes "gone"
word_of Same = codes "same"

-- what is written of a place, if its change has this rank
abbrev pub line_at : Margin → Spans → ℕ → List ℕ × Compared → List ℕ
line_at margin spans rank x =
    if rank_of (change_of margin spans x.1) == rank then place_text spans (word_of (change_of margin spans x.1)) x else []

-- the lines of the places whose change has this rank, in the order of these
abbrev pub lines_at : Margin → Spans → List (List ℕ × Compared) → ℕ → List ℕ
lines_at margin spans places rank = flat_map (line_at margin spans rank) places

-- the lines of the places that changed: those that are worse, new, better and gone
abbrev pub place_lines : Margin → Spans → List (List ℕ × Compared) → List ℕ
place_lines margin spans places =
    lines_at margin spans places 1 ++ (lines_at margin spans places 2 ++ (lines_at margin spans places 3 ++ lines_at margin spans places 4))

-- how many places changed so
abbrev pub count_at : Margin → Spans → List (List ℕ × Compared) → ℕ → ℕ
count_at margin spans places rank = length (filter (λ x. rank_of (change_of margin spans x.1) == rank) places)
