-- The head of a page.
use Rattle.std.specs.Prelude.{ℕ, ◌==◌, min, ◌&&◌, if◌then◌else◌, List, [], ◌∷◌, ◌++◌, codes, fold, length}
use Rattle.std.specs.List.{list_any}
use Rattle.tk_ids.specs.declared.info.Dropped.{Dropped}
use Rattle.tk_stream.specs.declared.tables.task.Task.{Task}
use Rattle.tk_stream.specs.Tables.{TablesView}
use Rattle.tk_paper.specs.Parts.{Bit, text, count, span, opens, ends, having_number, close, start, class}
use Rattle.tk_paper.specs.declared.marks.Attr.TheVariants as attrs
use Rattle.tk_paper.specs.declared.marks.Tag.TheVariants as tags
use Rattle.tk_page.specs.Waiting.{waits_from_last_wake}

-- the moment at the page's left: the first line's, or that of the earliest creation of a task
abbrev pub start_of : ℕ → List Task → ℕ
start_of first tasks = fold (λ start t. min start t.row.created) first tasks

-- a number, and what it counts: one of them, or more
abbrev pub fact : ℕ → List ℕ → List ℕ → List Bit
fact n one many = start tags.B ∷ count n ∷ close tags.B ∷ text (if n == 1 then one else many) ∷ []

-- words, and a dot in the middle after them
abbrev pub dotted : List ℕ → List ℕ
dotted words = words ++ 32 ∷ 194 ∷ 183 ∷ 32 ∷ []

-- how many tasks have left, where any have
abbrev pub gone_fact : ℕ → List Bit
gone_fact n =
    if n == 0 then [] else
    text (32 ∷ 194 ∷ 183 ∷ 32 ∷ []) ∷ [] ++ fact n (codes " task closed and gone") (codes " tasks closed and gone")

-- how many tasks, resources and operations there are, how many lines there were, and how long the time is that is shown, with the last line's moment
-- for the script
abbrev pub facts : ℕ → ℕ → TablesView → List Bit
facts watched lines tables =
    fact (length tables.tasks) (dotted (codes " task")) (dotted (codes " tasks"))
    ++ (fact (length tables.resources) (dotted (codes " resource")) (dotted (codes " resources"))
    ++ (fact (length tables.ops) (dotted (codes " operation")) (dotted (codes " operations"))
    ++ (fact lines (codes " line over ") (codes " lines over ")
    ++ opens tags.B ∷ having_number attrs.DataV tables.now ∷ ends ∷ span watched ∷ close tags.B ∷ [])))

-- how many events were dropped
abbrev pub dropped_facts : Dropped → List Bit
dropped_facts dropped =
    class tags.P (codes "missing") ∷ text (codes "Not all is here. Events were dropped: ") ∷ []
    ++ (fact dropped.tasks (codes " of a task, ") (codes " of tasks, ")
    ++ (fact dropped.resources (codes " of a resource, ") (codes " of resources, ")
    ++ (fact dropped.ops (codes " of an operation. ") (codes " of operations. ")
    ++ text (codes "Publish more often, or hold more events.") ∷ close tags.P ∷ [])))

-- the same where any were
abbrev pub missing : Dropped → List Bit
missing dropped = if (dropped.tasks == 0) && ((dropped.resources == 0) && (dropped.ops == 0)) then [] else dropped_facts dropped

-- the note that less is told of waiting than there was
abbrev pub late_note : List Bit
late_note =
    class tags.P (codes "note") ∷ text (codes "How long a task waited is counted from its last wake, as this stream says no more: a task that is woken while it waits has waited longer. With ")
    ∷ start tags.B ∷ text (codes "waits") ∷ close tags.B ∷ text (codes " a stream counts each wait from its begin.") ∷ close tags.P ∷ []

-- the same where it is so
abbrev pub late : List Task → List Bit
late tasks = if list_any waits_from_last_wake tasks then late_note else []

-- the head of a page of this title
abbrev pub header : List ℕ → ℕ → ℕ → ℕ → TablesView → List Bit
header title watched lines gone tables =
    start tags.Header ∷ start tags.H1 ∷ text title ∷ close tags.H1 ∷ class tags.P (codes "facts") ∷ []
    ++ (facts watched lines tables ++ (gone_fact gone ++ (close tags.P ∷ [] ++ (missing tables.dropped ++ (late tables.tasks ++ close tags.Header ∷ [])))))
