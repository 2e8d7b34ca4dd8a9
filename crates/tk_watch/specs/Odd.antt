-- What a screen tells of what is odd about a stream, as far as its lines came.
use Rattle.std.specs.Prelude.{ℕ, ◌-◌, List, [], ◌∷◌, take, Option, Some, None}
use Rattle.std.specs.Option.{option_map}
use Rattle.tk_client.specs.Changes.{untimed}
use Rattle.tk_client.specs.Warnings.{LintsView}
use Rattle.tk_frame.specs.Findings.{OddView}
use Rattle.tk_frame.specs.Places.{PlaceRow, places_in}
use Rattle.tk_odd.specs.Diagnosis.{standing_of}
use Rattle.tk_odd.specs.Findings.{findings_of, told_of}
use Rattle.tk_reading.specs.Fronts.{lines_in, tables_in}
use Rattle.tk_reading.specs.Outcomes.{outcome_of}
use Rattle.tk_reading.specs.Shown.{last_timed, shown_of, timed_of}
use Rattle.tk_sites.specs.Sites.{sites_until}
use Rattle.tk_stream.specs.Tables.{TablesView}
use Rattle.tk_stream.specs.Times.{TaskTimes}
use Rattle.tk_watch.specs.Recent.{limits_of, noted_of, recent_after}
use Rattle.tk_watch.specs.Waits.{waits_after}

-- the tables after each line of a stream's bytes that is applied: at a fault those before it
abbrev pub seen_in : List ℕ → List TablesView
seen_in bytes = take (lines_in (outcome_of bytes)) (shown_of bytes)

-- the histograms beside the tables that a stream's bytes come to: at a fault those that stood before it
abbrev pub times_in : List ℕ → List TaskTimes
times_in bytes = (last_timed untimed (take (lines_in (outcome_of bytes)) (timed_of bytes))).1

-- the moment of the first line, where one came
abbrev pub first_moment : List TablesView → Option ℕ
first_moment [] = None
first_moment (t ∷ ts) = Some t.now

-- the places of tables to which these lines came: what their tasks came to, those that have left among them, with what lasts; and what is known of those
-- that held up others
abbrev pub places_after : LintsView → List TablesView → TablesView → List PlaceRow
places_after lints shown tables = places_in (sites_until shown tables) (standing_of (limits_of lints) shown).places.0

-- what is odd about tables to which these lines came, with who waited longest for it, and their places, with what these came to in the last 5 seconds; how many
-- tasks waited at each of the last lines; and when the service was started again
abbrev pub odd_after : LintsView → List TablesView → TablesView → OddView
odd_after lints shown tables = record {
  findings = findings_of (limits_of lints) (standing_of (limits_of lints) shown) tables;
  told = told_of (limits_of lints) (standing_of (limits_of lints) shown) tables;
  places = places_after lints shown tables;
  recent = recent_after lints shown tables.now (places_after lints shown tables);
  waits = waits_after shown;
  again = (noted_of lints shown).again;
  span = option_map (λ from. tables.now - from) (first_moment shown);
  long = (limits_of lints).long;
}

-- what is odd about what a stream's bytes come to
abbrev pub odd_in : LintsView → List ℕ → OddView
odd_in lints bytes = odd_after lints (seen_in bytes) (tables_in (outcome_of bytes))
