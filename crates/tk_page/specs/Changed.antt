-- The page of what changed between two streams.
use Rattle.std.specs.Prelude.{◌≡◌, ℕ, ◌+◌, ◌*◌, ◌==◌, ◌||◌, nat_le, if◌then◌else◌, Option, Some, Result, Ok, Err, List, [], ◌∷◌, ◌++◌, codes, flat_map, fold, slice_get}
use Rattle.std.specs.Option.{option_map_or}
use Rattle.std.specs.Io.KnownBytes.{Appends}
use Rattle.tk_core.specs.Lists.{capped}
use Rattle.tk_fault.specs.declared.fault.AppFault.{AppFault}
use Rattle.tk_fault.specs.declared.fault.AppFault.TheVariants as faults
use Rattle.tk_stream.specs.Sent.{IsCut}
use Rattle.tk_compare.specs.Changes.{change_of, rate, rate_in_hundredths}
use Rattle.tk_compare.specs.Compared.{compared}
use Rattle.tk_compare.specs.Found.{compared_findings, rank_of as standing_rank, standing_of}
use Rattle.tk_compare.specs.Lines.{rank_of, word_of}
use Rattle.tk_compare.specs.Recorded.{names_kept}
use Rattle.tk_compare.specs.Text.{found_counts, site_counts}
use Rattle.tk_compare.specs.Views.{spans_of, worse_of}
use Rattle.tk_compare.specs.declared.change.Margin.{Margin}
use Rattle.tk_compare.specs.declared.change.Spans.{Spans}
use Rattle.tk_compare.specs.declared.found.Seen.{Seen}
use Rattle.tk_compare.specs.declared.recorded.Recorded.{Recorded}
use Rattle.tk_compare.specs.declared.spent.Compared.{Compared}
use Rattle.tk_compare.specs.declared.spent.Side.{Side}
use Rattle.tk_compare.specs.declared.spent.Side.TheVariants.{Before, After}
use Rattle.tk_compare.specs.declared.text.FoundCounts.{FoundCounts}
use Rattle.tk_compare.specs.declared.text.SiteCounts.{SiteCounts}
use Rattle.tk_paper.specs.Escaping.{Woven, no_paper}
use Rattle.tk_paper.specs.Parts.{Bit, text, span, mean, opens, ends, close, start, class, having, having_number}
use Rattle.tk_paper.specs.Pieces.{Writes}
use Rattle.tk_paper.specs.declared.marks.Attr.TheVariants as attrs
use Rattle.tk_paper.specs.declared.marks.Place.TheVariants as places
use Rattle.tk_paper.specs.declared.marks.Tag.TheVariants as tags
use Rattle.tk_page.specs.declared.frame.TheConstants.{HEAD, TAIL}
use Rattle.tk_page.specs.declared.ranks.Rank.{Rank}
use Rattle.tk_page.specs.Badges.{section}
use Rattle.tk_page.specs.ChangeRanks.{AreChangeRanks}
use Rattle.tk_page.specs.Figures.{mean_of}
use Rattle.tk_page.specs.Heads.{fact}
use Rattle.tk_page.specs.Rows.{column, numbers_column}
use Rattle.tk_page.specs.Places.{site_text}

-- ---- two numbers, and their ratio

-- an arrow between two numbers
abbrev pub arrow : List ℕ
arrow = 32 ∷ 226 ∷ 134 ∷ 146 ∷ 32 ∷ []

-- what a number is to what it was: so many times as much, or one part of so many. Of a number that is 0 nothing is said
abbrev pub ratio : ℕ → ℕ → List Bit
ratio before after =
    if (before == 0) || (after == 0) then [] else
    if nat_le before after then text (32 ∷ 195 ∷ 151 ∷ []) ∷ mean (mean_of after before) ∷ []
    else text (32 ∷ 195 ∷ 183 ∷ []) ∷ mean (mean_of before after) ∷ []

-- a cell with two numbers, as they are shown, and their ratio. It is sorted by the second one
abbrev pub cell_of : ℕ → ℕ → Bit → Bit → List Bit
cell_of before after old new =
    opens tags.Td ∷ having_number attrs.DataV after ∷ having attrs.Class (codes "num") ∷ ends ∷ old ∷ text arrow ∷ new ∷ [] ++ (ratio before after ++ close tags.Td ∷ [])

-- a cell with a time before and after
abbrev pub times_cell : ℕ → ℕ → List Bit
times_cell before after = cell_of before after (span before) (span after)

-- a cell with a number of hundredths before and after
abbrev pub rates_cell : ℕ → ℕ → List Bit
rates_cell before after = cell_of before after (mean (capped (before * 10))) (mean (capped (after * 10)))

-- ---- the head

-- for how long the tasks of a place waited in one of the streams
abbrev pub waited_of : Side → Compared → ℕ
waited_of Before x = x.before.waited
waited_of After x = x.after.waited

-- for how long those of all places did: it stays at 2^64 - 1
abbrev pub waited_in : Side → List (List ℕ × Compared) → ℕ
waited_in side places = fold (λ sum x. capped (sum + waited_of side x.1)) 0 places

-- which streams these are, and how long they took
abbrev pub change_header : List ℕ → List ℕ → Spans → List Bit
change_header title before spans =
    start tags.Header ∷ start tags.H1 ∷ text title ∷ close tags.H1 ∷ class tags.P (codes "facts") ∷ text (codes "after ") ∷ start tags.B ∷ text before
    ∷ close tags.B ∷ text (codes ": ") ∷ start tags.B ∷ span spans.before ∷ close tags.B ∷ text arrow ∷ start tags.B ∷ span spans.after ∷ close tags.B
    ∷ text (codes " in all. Rates are of a second.") ∷ close tags.P ∷ close tags.Header ∷ []

-- the verdict: something got worse, or else better, or neither
abbrev pub verdict_of : SiteCounts → FoundCounts → List ℕ
verdict_of sites found =
    if nat_le 1 sites.worse || nat_le 1 found.new then codes "worse" else if nat_le 1 sites.better || nat_le 1 found.gone then codes "better" else codes "same"

-- how many places changed so
abbrev pub sites_said : SiteCounts → List Bit
sites_said n =
    fact n.worse (codes " place is worse, ") (codes " places are worse, ") ++ (fact n.better (codes " better, ") (codes " better, ")
    ++ (fact n.new (codes " new, ") (codes " new, ") ++ (fact n.gone (codes " gone, ") (codes " gone, ") ++ fact n.same (codes " the same. ") (codes " the same. "))))

-- how many findings are new, gone, and still there
abbrev pub found_said : FoundCounts → List Bit
found_said n =
    fact n.new (codes " finding is new, ") (codes " findings are new, ") ++ (fact n.gone (codes " gone, ") (codes " gone, ")
    ++ fact n.still (codes " still there.") (codes " still there."))

-- how many tasks waited at a time in the mean, in thousandths
abbrev pub mean_waiting : Side → ℕ → List (List ℕ × Compared) → ℕ
mean_waiting side time places = mean_of (waited_in side places) time

-- the same before and after
abbrev pub waiting_said : Spans → List (List ℕ × Compared) → List Bit
waiting_said spans places =
    text (codes "Tasks that wait at a time: ") ∷ start tags.B ∷ mean (mean_waiting Before spans.before places) ∷ text arrow
    ∷ mean (mean_waiting After spans.after places) ∷ close tags.B ∷ text (codes " in the mean. ") ∷ []

-- the verdict
abbrev pub verdict_head : SiteCounts → FoundCounts → List Bit
verdict_head sites found =
    class tags.Div (codes "now verdict") ∷ class tags.Span (codes "tag") ∷ text (verdict_of sites found) ∷ close tags.Span ∷ text (codes " ") ∷ []

-- what holds of all: the verdict, how many tasks waited, and how much changed
abbrev pub verdict : Margin → Spans → List (List ℕ × Compared) → List (List ℕ × Seen) → List Bit
verdict margin spans places findings =
    verdict_head (site_counts margin spans places) (found_counts findings) ++ (waiting_said spans places ++ (sites_said (site_counts margin spans places)
    ++ (found_said (found_counts findings) ++ close tags.Div ∷ [])))

-- ---- findings

-- the word of a finding of this rank
abbrev pub standing_word : ℕ → List ℕ
standing_word rank = if rank == 1 then codes "new" else if rank == 2 then codes "gone" else codes "still there"

-- what stands before a finding of this rank
abbrev pub finding_head : ℕ → List Bit
finding_head rank = class tags.Li (codes "change") ∷ start tags.B ∷ text (standing_word rank) ∷ close tags.B ∷ text (codes " ") ∷ []

-- a finding of this rank
abbrev pub finding_item : ℕ → List ℕ → List Bit
finding_item rank name =
    finding_head rank ++ (site_text name ++ close tags.Li ∷ [])

-- a finding, if it has this rank
abbrev pub finding_if : ℕ → List ℕ × Seen → List Bit
finding_if rank x = if standing_rank (standing_of x.1) == rank then finding_item rank x.0 else []

-- all findings: those that are new, gone and still there
abbrev pub findings_listed : List (List ℕ × Seen) → List Bit
findings_listed findings = flat_map (finding_if 1) findings ++ (flat_map (finding_if 2) findings ++ flat_map (finding_if 3) findings)

abbrev pub findings_section : List (List ℕ × Seen) → List Bit
findings_section findings =
    section (codes "odd") (codes "Findings") ++ (close tags.H2 ∷ class tags.Ul (codes "odd") ∷ [] ++ (findings_listed findings ++ close tags.Ul ∷ close tags.Section ∷ []))

-- ---- places

-- how many polls started in a second, before and after
abbrev pub polls_rate_cell : Spans → ℕ → ℕ → List Bit
polls_rate_cell spans before after = rates_cell (rate_in_hundredths spans.before before) (rate_in_hundredths spans.after after)

-- which time of a second that is, before and after
abbrev pub time_rate_cell : Spans → ℕ → ℕ → List Bit
time_rate_cell spans before after = times_cell (rate spans.before before) (rate spans.after after)

-- what the tasks of a place came to in each stream, of a second: polls, time that they ran, time that they waited, and time that others waited for them
abbrev pub changes_of : Spans → Compared → List Bit
changes_of spans x =
    polls_rate_cell spans x.before.polls x.after.polls ++ (time_rate_cell spans x.before.ran x.after.ran
    ++ (time_rate_cell spans x.before.waited x.after.waited ++ (time_rate_cell spans x.before.held x.after.held
    ++ times_cell x.before.times.polls.longest x.after.times.polls.longest)))

-- the row of a place, with the word for its change
abbrev pub change_row : Spans → List ℕ → List ℕ × Compared → List Bit
change_row spans word x =
    class tags.Tr word ∷ opens tags.Th ∷ having attrs.Scope (codes "row") ∷ ends ∷ [] ++ (site_text x.0 ++ (close tags.Th ∷ start tags.Td
    ∷ text word ∷ close tags.Td ∷ [] ++ (changes_of spans x.1 ++ close tags.Tr ∷ [])))

-- the same, if it changed
abbrev pub row_if : Margin → Spans → List ℕ × Compared → List Bit
row_if margin spans x =
    if rank_of (change_of margin spans x.1) == 5 then [] else change_row spans (word_of (change_of margin spans x.1)) x

-- the row of the place of a rank
abbrev pub row_of_rank : Margin → Spans → List (List ℕ × Compared) → Rank → List Bit
row_of_rank margin spans places rank = option_map_or (row_if margin spans) (slice_get places rank.place) []

-- the rows of the places that changed, in the order of these ranks
abbrev pub change_rows : Margin → Spans → List (List ℕ × Compared) → List Rank → List Bit
change_rows margin spans places ranks = flat_map (row_of_rank margin spans places) ranks

abbrev pub change_columns : List Bit
change_columns =
    column [] [] (codes "place") ++ (column [] [] (codes "change")
    ++ (numbers_column (codes "polls that started in a second") (codes "polls") ++ (numbers_column (codes "how long their polls ran in a second") (codes "ran")
    ++ (numbers_column (codes "how long they waited in a second") (codes "waited")
    ++ (numbers_column (codes "how long others waited in a second while they ran long, at least") (codes "held up others")
    ++ (numbers_column (codes "if the stream has histograms") (codes "longest poll") ++ close tags.Tr ∷ close tags.Thead ∷ start tags.Tbody ∷ []))))))

abbrev pub change_caption : List Bit
change_caption =
    opens tags.Table ∷ having attrs.Id (codes "changes") ∷ ends ∷ start tags.Caption
    ∷ text (codes "Each row is a place that changed: where tasks are made, as what, and by which name but for numbers. Those that changed most come first. A number stands before and after, with what the one is to the other.")
    ∷ close tags.Caption ∷ start tags.Thead ∷ start tags.Tr ∷ []

abbrev pub changes_section : Margin → Spans → List (List ℕ × Compared) → List Rank → List Bit
changes_section margin spans places ranks =
    section (codes "places") (codes "Places") ++ (close tags.H2 ∷ class tags.Div (codes "scroll wide") ∷ [] ++ (change_caption ++ (change_columns
    ++ (change_rows margin spans places ranks ++ close tags.Tbody ∷ close tags.Table ∷ close tags.Div ∷ close tags.Section ∷ []))))

-- ---- the page

-- all parts of the page of two streams
abbrev pub change_parts : List ℕ → List ℕ → Margin → Spans → List (List ℕ × Compared) → List Rank → List (List ℕ × Seen) → List Bit
change_parts title before margin spans places ranks findings =
    verdict margin spans places findings ++ (change_header title before spans ++ (start tags.Main ∷ [] ++ (findings_section findings
    ++ (changes_section margin spans places ranks ++ close tags.Main ∷ []))))

-- a page of places and findings of two streams: the places at which most changed stand first; between the page's own head and end stand its parts, and
-- every byte is the page's own markup or an escaped byte of a text, each where it may stand
pub record IsDrawnOf (title path : List ℕ) (margin : Margin) (spans : Spans) (compares : List (List ℕ × Compared)) (findings : List (List ℕ × Seen)) (page : List ℕ) : Type 0 where
  pub ranks : List Rank
  pub ranked : AreChangeRanks spans compares ranks
  pub inner : List ℕ
  pub wrote : Writes no_paper (record { text = inner; place = Some places.Text }) (change_parts title path margin spans compares ranks findings)
  pub woven : ∥ Woven inner places.Text ∥₁
  pub framed : page ≡ (HEAD.now ++ inner) ++ TAIL.now

-- the page of what was kept of two streams
abbrev pub IsChangePage : List ℕ → List ℕ → Margin → Recorded → Recorded → List ℕ → Type 0
IsChangePage title path margin before after =
    IsDrawnOf title path margin (spans_of before after) (compared before after) (compared_findings (names_kept before) (names_kept after))

-- the page was written, and what got worse was counted
pub record ShowsChanges (title path : List ℕ) (margin : Margin) (before after : Recorded) (worse : ℕ) (old new : Option (List ℕ)) : Type 0 where
  pub page : List ℕ
  pub is : IsChangePage title path margin before after page
  pub wrote : Appends old new page
  pub counted : worse ≡ worse_of margin before after

-- a proper front of such a page was written
pub record ShowsChangesFront (title path : List ℕ) (margin : Margin) (before after : Recorded) (old new : Option (List ℕ)) : Type 0 where
  pub page : List ℕ
  pub is : IsChangePage title path margin before after page
  pub front : List ℕ
  pub cut : IsCut page front
  pub wrote : Appends old new front

-- what the page of two streams came to, by its answer: of the writer's bytes before and after
abbrev pub PagesChanges : List ℕ → List ℕ → Margin → Recorded → Recorded → Result ℕ AppFault → Option (List ℕ) → Option (List ℕ) → Type 0
PagesChanges title path margin before after (Ok worse) old new = ShowsChanges title path margin before after worse old new
PagesChanges title path margin before after (Err faults.Write) old new = ShowsChangesFront title path margin before after old new
PagesChanges title path margin before after (Err faults.Memory) old new = Unit {0}
PagesChanges title path margin before after (Err faults.Read) old new = ⊥
PagesChanges title path margin before after (Err (faults.Stream lines fault)) old new = ⊥
PagesChanges title path margin before after (Err (faults.Script line name)) old new = ⊥
