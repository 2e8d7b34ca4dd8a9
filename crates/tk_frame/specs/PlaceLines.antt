-- The lines that tell of places.
use Rattle.std.specs.Prelude.{ℕ, ◌+◌, ◌==◌, List, [], ◌∷◌, ◌++◌, drop, take, slice_get, codes, decimal, Bool, false, if◌then◌else◌, Option, Some, None}
use Rattle.std.specs.Option.{option_map_or}
use Rattle.tk_core.specs.Lists.{capped}
use Rattle.tk_screen.specs.Screens.{LineView}
use Rattle.tk_screen.specs.Texts.{duration_text, right}
use Rattle.tk_screen.specs.declared.canvas.Style.{Style}
use Rattle.tk_screen.specs.declared.canvas.Style.TheVariants as styles
use Rattle.tk_screen.specs.declared.top.Ranked.{Ranked}
use Rattle.tk_sites.specs.declared.sums.Sums.{Sums}
use Rattle.tk_frame.specs.Findings.{OddView, numbered}
use Rattle.tk_frame.specs.Lines.{as_text, cell, end_of, heading, plain, word}
use Rattle.tk_frame.specs.Pages.{places_text}
use Rattle.tk_frame.specs.Places.{PlaceRow, location_in, name_in}
use Rattle.tk_frame.specs.Queries.{places_by, top_places}
use Rattle.tk_frame.specs.declared.pages.Page.{Page}
use Rattle.tk_frame.specs.declared.places.Figures.{Figures}
use Rattle.tk_frame.specs.declared.query.Query.{Query}

-- the columns of places
abbrev pub place_heading : List ℕ
place_heading = codes " " ++ (word 15 (codes "PLACE") ++ (word 10 (codes "NAME") ++ (cell 4 (codes "OPEN") ++ (cell 4 (codes "WAIT") ++ (cell 8 (codes "RAN")
    ++ (cell 8 (codes "LONGEST") ++ (cell 6 (codes "POLLS") ++ (cell 8 (codes "WAITED") ++ right 8 (codes "HELD UP")))))))))

-- how many of its tasks are open
abbrev pub open_tasks : Sums → ℕ
open_tasks s = capped (capped (s.idle + s.scheduled) + s.polling)

-- a time, where one is known
abbrev pub known_text : ℕ → List ℕ
known_text n = if n == 0 then codes "-" else duration_text n

-- where its tasks were spawned, of which the end is shown where it is longer; and their name, of which then the begin is shown
abbrev pub where_text : List ℕ → List ℕ
where_text site = word 15 (as_text (end_of 15 (location_in site))) ++ word 10 (as_text (take 10 (name_in site)))

-- how many of its tasks are open and how many of these wait, how long its tasks ran, their longest poll, their polls, how long they waited, and for how
-- long others waited while they ran
abbrev pub figures_text : Figures → List ℕ
figures_text f = cell 4 (decimal (open_tasks f.sums)) ++ (cell 4 (decimal f.sums.scheduled) ++ (cell 8 (duration_text f.sums.busy)
    ++ (cell 8 (known_text f.longest) ++ (cell 6 (decimal f.sums.polls) ++ (cell 8 (duration_text f.sums.waited) ++ right 8 (known_text f.held_up))))))

-- what stands before a place that is chosen or not
abbrev pub mark_of : Bool → List ℕ
mark_of chosen = if chosen then codes ">" else codes " "

abbrev pub style_of : Bool → Style
style_of chosen = if chosen then styles.Heading else styles.Plain

abbrev pub place_text : Bool → PlaceRow → List ℕ
place_text chosen p = mark_of chosen ++ (where_text p.0 ++ figures_text p.1)

-- the line of a place
abbrev pub place_line : Bool → PlaceRow → LineView
place_line chosen p = record { style = style_of chosen; text = place_text chosen p }

-- the row of this number is the chosen one
abbrev pub is_chosen : Option ℕ → ℕ → Bool
is_chosen None n = false
is_chosen (Some chosen) n = chosen == n

-- the line of the place of a rank, in the row of this number
abbrev pub place_row : List PlaceRow → Option ℕ → ℕ → Ranked → List LineView
place_row places chosen n r = option_map_or (λ (p : PlaceRow). place_line (is_chosen chosen n) p ∷ []) (slice_get places r.place) []

-- the places of these ranks, of which one row may be chosen
abbrev pub place_rows : List PlaceRow → Option ℕ → List Ranked → List LineView
place_rows places chosen top = numbered (place_row places chosen) 0 top

-- the places on a page, and how many there are
abbrev pub places_part : Option ℕ → Query → OddView → Page → List LineView
places_part chosen query odd page =
    heading place_heading ∷ (place_rows (places_by query.recent odd) chosen (drop page.from (top_places query page.to odd)) ++ (plain (places_text page) ∷ []))
