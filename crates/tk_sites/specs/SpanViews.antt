-- What reading a stream up to a moment comes to, and what the view of a span by place writes.
use Rattle.std.specs.Prelude.{◌≡◌, ℕ, List, [], length, Bool, is_some, Option, Result, Ok, Err}
use Rattle.std.specs.Io.KnownBytes.{Appends}
use Rattle.tk_stream.specs.Sent.{IsCut}
use Rattle.tk_client.specs.Meaning.{Start}
use Rattle.tk_client.specs.Warnings.{LintsView}
use Rattle.tk_fault.specs.declared.fault.AppFault.{AppFault}
use Rattle.tk_fault.specs.declared.fault.AppFault.TheVariants as faults
use Rattle.tk_reading.specs.Outcomes.{HaveFault}
use Rattle.tk_reading.specs.Shown.{shown_of, timed_of}
use Rattle.tk_report.specs.TimedViews.{LeadToStart}
use Rattle.tk_sites.specs.Sites.{sites_of}
use Rattle.tk_sites.specs.SpanLines.{span_text}
use Rattle.tk_sites.specs.TimedSites.{shown_times}
use Rattle.tk_sites.specs.Views.{warned_in}
use Rattle.tk_sites.specs.declared.places_then.PlacesThen.{PlacesThen}

-- ---- the stream up to the moment

-- all bytes of a reader come to this: the moment of its last line, or 0 where it has none, its places, and their histograms where these are asked for
pub record ArePlaces (given : Option (List ℕ)) (shown : Bool) (old : PlacesThen) : Type 0 where
  pub start : Start
  pub lead : LeadToStart given start
  pub moment : old.moment ≡ start.tables.now
  pub sites : old.sites ≡ sites_of (shown_of lead.bytes) start.tables []
  pub times : old.times ≡ shown_times shown (timed_of lead.bytes) start.tables start.times

-- what reading such a stream came to, by its answer: of the reader's bytes that were given and those that are left
abbrev pub ReadsPlaces : Bool → Option (List ℕ) → Option (List ℕ) → Result PlacesThen AppFault → Type 0
ReadsPlaces times given left (Ok old) = ArePlaces given times old
ReadsPlaces times given left (Err (faults.Stream lines fault)) = HaveFault given left lines fault
ReadsPlaces times given left (Err faults.Memory) = Unit {0}
ReadsPlaces times given left (Err faults.Read) = Unit {0}
ReadsPlaces times given left (Err faults.Write) = ⊥
ReadsPlaces times given left (Err (faults.Script line name)) = ⊥

-- ---- the span since it

-- what is written of a whole stream of these bytes, which come to these tables and histograms, since places had come to this: with histograms where those
-- of the moment are known
abbrev pub span_text_of : PlacesThen → LintsView → Option ℕ → List ℕ → Start → List ℕ
span_text_of old lints wait_ms bytes start =
    span_text old start.tables (sites_of (shown_of bytes) start.tables (warned_in lints wait_ms start))
    (shown_times (is_some old.times) (timed_of bytes) start.tables start.times)

-- the text was written, and the warnings of the end were counted: each of a task, not of a place
pub record ShowsSpan (given : Option (List ℕ)) (moment : PlacesThen) (lints : LintsView) (wait_ms : Option ℕ) (count : ℕ) (old new : Option (List ℕ)) : Type 0 where
  pub start : Start
  pub lead : LeadToStart given start
  pub wrote : Appends old new (span_text_of moment lints wait_ms lead.bytes start)
  pub counted : count ≡ length (warned_in lints wait_ms start)

-- a proper front of the text was written
pub record ShowsSpanFront (given : Option (List ℕ)) (moment : PlacesThen) (lints : LintsView) (wait_ms : Option ℕ) (old new : Option (List ℕ)) : Type 0 where
  pub start : Start
  pub lead : LeadToStart given start
  pub front : List ℕ
  pub cut : IsCut (span_text_of moment lints wait_ms lead.bytes start) front
  pub wrote : Appends old new front

-- what such a view came to, by its answer: of the reader's bytes that were given and those that are left, and of the writer's before and after
abbrev pub ViewsSpan : PlacesThen → LintsView → Option ℕ → Option (List ℕ) → Option (List ℕ) → Result ℕ AppFault → Option (List ℕ) → Option (List ℕ) → Type 0
ViewsSpan moment lints wait_ms given left (Ok count) old new = ShowsSpan given moment lints wait_ms count old new
ViewsSpan moment lints wait_ms given left (Err faults.Write) old new = ShowsSpanFront given moment lints wait_ms old new
ViewsSpan moment lints wait_ms given left (Err (faults.Stream lines fault)) old new = HaveFault given left lines fault
ViewsSpan moment lints wait_ms given left (Err faults.Memory) old new = Unit {0}
ViewsSpan moment lints wait_ms given left (Err faults.Read) old new = Unit {0}
ViewsSpan moment lints wait_ms given left (Err (faults.Script line name)) old new = ⊥
