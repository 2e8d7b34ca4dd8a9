-- Which of the tasks that are shown stand on a screen: as many as fit, and the chosen one among them.
use Rattle.std.specs.Prelude.{◌==◌, ◌+◌, ◌-◌, ◌/◌, ◌%◌, min, nat_lt, ℕ, List, [], ◌++◌, length, codes, decimal, Bool, Option, Some, None, if◌then◌else◌}
use Rattle.tk_screen.specs.declared.canvas.Canvas.{Canvas}
use Rattle.tk_screen.specs.declared.canvas.Canvas.TheVariants.{Plain, Terminal}
use Rattle.tk_odd.specs.Findings.{Placed}
use Rattle.tk_frame.specs.Courses.{course_height}
use Rattle.tk_frame.specs.Findings.{OddView, any_now, most_of}
use Rattle.tk_frame.specs.declared.pages.Page.{Page}
use Rattle.tk_frame.specs.declared.query.Query.{Query}

-- ---- how many rows fit

-- how many lines say that no finding holds now
abbrev pub calm_height : List Placed → ℕ
calm_height list = if any_now list then 0 else 1

-- how many lines the first of so many findings take, and how many more there are
abbrev pub list_height : ℕ → ℕ → ℕ
list_height most n = if nat_lt most n then most + 1 else n

-- how many lines of a terminal are left for rows. Besides those above a screen, the course of waiting, and its findings, its first line is taken, the heading of tasks, the line
-- that counts them, and the last line, which stays free
abbrev pub lines_left : ℕ → ℕ → ℕ → OddView → ℕ
lines_left lines most above odd = lines - 4 - above - course_height odd.waits - calm_height odd.findings - list_height most (length odd.findings)

-- how many of them a table has. Where resources are shown too there are three tables, and two more headings
abbrev pub share : Bool → ℕ → ℕ
share resources left = if resources then (left - 2) / 3 else left

-- at most as many as were asked for
abbrev pub at_most : Option ℕ → ℕ → ℕ
at_most None n = n
at_most (Some rows) n = min rows n

-- how many rows text has, where it wasn't asked for so many
abbrev pub text_rows : Option ℕ → ℕ
text_rows None = 20
text_rows (Some rows) = rows

-- how many rows of a table fit below so many lines that stand above the screen
abbrev pub fitting_rows : Canvas → Query → OddView → ℕ → ℕ
fitting_rows Plain query odd above = text_rows query.rows
fitting_rows (Terminal size colors) query odd above = at_most query.rows (share query.resources (lines_left size.lines (most_of (Terminal size colors)) above odd))

-- a table has one row, even where none fits
abbrev pub one_at_least : ℕ → ℕ
one_at_least n = if n == 0 then 1 else n

abbrev pub table_rows : Canvas → Query → OddView → ℕ → ℕ
table_rows canvas query odd above = one_at_least (fitting_rows canvas query odd above)

-- ---- pages

-- of so many tasks, the one at a place, or the last where fewer are left
abbrev pub chosen_of : ℕ → ℕ → ℕ
chosen_of chosen all = min chosen (all - 1)

-- where the page of so many rows begins on which a place stands
abbrev pub page_start : ℕ → ℕ → ℕ
page_start rows place = place - place % rows

-- the page of the chosen one of so many tasks: from which of them on, and up to which
abbrev pub page_of : ℕ → ℕ → ℕ → Page
page_of rows chosen all = record {
  from = page_start rows (chosen_of chosen all);
  to = min all (page_start rows (chosen_of chosen all) + rows);
  all = all;
}

-- how many tasks a page has, and of how many
abbrev pub counts_text : Page → List ℕ
counts_text page = decimal (page.to - page.from) ++ (codes " of " ++ (decimal page.all ++ codes " tasks"))

-- how many are on the pages before, where there are such
abbrev pub from_text : ℕ → List ℕ
from_text from = if from == 0 then [] else codes ", after the first " ++ decimal from

abbrev pub page_text : Page → List ℕ
page_text page = counts_text page ++ from_text page.from

-- how many places a page has, and of how many
abbrev pub place_counts_text : Page → List ℕ
place_counts_text page = decimal (page.to - page.from) ++ (codes " of " ++ (decimal page.all ++ codes " places"))

abbrev pub places_text : Page → List ℕ
places_text page = place_counts_text page ++ from_text page.from
