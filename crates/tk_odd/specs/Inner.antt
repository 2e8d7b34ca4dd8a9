-- Inner: how what is kept shows what the definitions say.
use Rattle.std.specs.Prelude.{◌≡◌, ℕ, List, map}
use Rattle.tk_odd.specs.declared.diagnosis.Diagnosis.{Diagnosis}
use Rattle.tk_odd.specs.declared.members.Member.{Member as Kept}
use Rattle.tk_odd.specs.declared.places.Places.{Places as KeptPlaces}
use Rattle.tk_odd.specs.declared.span.Span.{Span}
use Rattle.tk_reading.specs.Shown.{last_shown}
use Rattle.tk_stream.specs.Tables.{TablesView, empty_tables}
use Rattle.tk_odd.specs.Diagnosis.{Places, Standing, standing_of}
use Rattle.tk_odd.specs.Keeping.{Keeps}
use Rattle.tk_odd.specs.Members.{Member}
use Rattle.tk_odd.specs.Span.{span_of}

-- the members of a step, as they are kept
abbrev pub shown : List (ℕ × Kept) → List Member
shown entries = map (λ e. (e.0, e.1.place.items, e.1.moved)) entries

-- the places, as they are kept
abbrev pub places_of : KeptPlaces → Places
places_of p = (p.held, p.guilty.items)

-- what stands, as it is kept, where the last line led to these tables
abbrev pub standing_in : TablesView → Diagnosis → Standing
standing_in before d = record {
  lines = d.lines;
  first = d.first;
  before = before;
  members = shown d.members.entries;
  places = places_of d.places;
  pairs = d.pairs;
  free = d.free;
  shares = d.shares;
  overloaded = d.overloaded;
  alone = d.alone;
  passed = d.passed.items;
}

-- what is kept is what stands after these lines, and of the last tables the rows
pub record Follows (shown : List TablesView) (d : Diagnosis) : Type 0 where
  pub standing : standing_in (last_shown empty_tables shown) d ≡ standing_of d.limits shown
  pub rows : Keeps (last_shown empty_tables shown) d.rows

-- what was kept is what is kept after one line more
pub record Goes (step : Standing → TablesView → Standing) (before tables : TablesView) (old new : Diagnosis) : Type 0 where
  pub standing : standing_in tables new ≡ step (standing_in before old) tables
  pub rows : Keeps tables new.rows

-- what is kept is what stands after the lines of a span, where a stream has shown these
abbrev pub FollowsSpan : List TablesView → Span → Type 0
FollowsSpan shown s = Follows (span_of s.since shown) s.diagnosis
