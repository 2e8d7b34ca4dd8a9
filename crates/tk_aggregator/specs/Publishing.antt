-- What one call makes of an aggregator that takes events in, reads the ledgers, and publishes.
use Rattle.std.specs.Prelude.{◌≡◌, ℕ, ◌+◌, List, [], ◌++◌, false, Option, ◌⊎◌}
use Rattle.std.specs.Io.KnownBytes.{Appends}
use Rattle.tk_events.specs.Handles.{Taking}
use Rattle.tk_stream.specs.Spelling.{sent_text}
use Rattle.tk_stream.specs.Streams.{IsStreamTo, times_sent}
use Rattle.tk_stream.specs.Tables.{TablesView, empty_tables}
use Rattle.tk_stream.specs.Times.{TaskTimes}
use Rattle.tk_aggregator.specs.declared.published.Published.{Published}
use Rattle.tk_aggregator.specs.declared.stream_error.StreamError.{StreamError}
use Rattle.tk_aggregator.specs.declared.stream_error.StreamError.TheVariants.{Memory}
use Rattle.tk_aggregator.specs.Absorbing.{infos_of}
use Rattle.tk_aggregator.specs.Aggregates.{Aggregating, Collects, RunsOut, Refreshes, IsLaterOf, IsSameStream, IsDue, Refuses, line_at, after_line}

-- bytes are an uninterrupted stream whose last line leads to these tables and histograms, and has this number
abbrev pub IsTimedStreamTo : List ℕ → TablesView → List TaskTimes → ℕ → Type 0
IsTimedStreamTo bytes tables times last = (stream : IsStreamTo bytes tables last) × (times_sent [] empty_tables stream.sent ≡ times)

-- what was recorded was taken in, and then each ledger read
pub record CatchesUp (old : Aggregating) (before : Taking) (limit count : ℕ) (new : Aggregating) (after : Taking) : Type 0 where
  -- what stood after the first and before the second
  pub collected : Aggregating
  pub collects : Collects old before limit count collected after
  pub refreshes : Refreshes collected new
  pub same_infos : infos_of new.tables ≡ infos_of collected.tables
  pub later : IsLaterOf old new
  pub stays : IsSameStream old new

-- then a line of it was written, which goes on with the stream
pub record Publishes (old : Aggregating) (before : Taking) (limit now : ℕ) (done : Published) (new : Aggregating) (after : Taking) (written written' : Option (List ℕ)) : Type 0 where
  -- what the line tells of
  pub read : Aggregating
  pub caught_up : CatchesUp old before limit done.events read after
  pub due : IsDue false read now
  pub number : done.number ≡ old.last + 1
  pub state : new ≡ after_line false read now
  pub sent : Appends written written' (sent_text (line_at false read now))
  pub stream : (bytes : List ℕ) → IsStreamTo bytes old.told old.last → IsStreamTo (bytes ++ sent_text (line_at false read now)) new.told new.last
  pub timed_stream : (bytes : List ℕ) → IsTimedStreamTo bytes old.told old.timing.told old.last → IsTimedStreamTo (bytes ++ sent_text (line_at false read now)) new.told new.timing.told new.last

-- memory ran out for an event: no ledger was read, and nothing written
pub record RanOut (why : StreamError) (old : Aggregating) (before : Taking) (limit : ℕ) (new : Aggregating) (after : Taking) (written written' : Option (List ℕ)) : Type 0 where
  pub memory : why ≡ Memory
  pub runs_out : RunsOut old before limit new after
  pub unwritten : written' ≡ written

-- what was recorded was taken in and each ledger read, and the line refused
pub record Unpublished (why : StreamError) (old : Aggregating) (before : Taking) (limit now : ℕ) (new : Aggregating) (after : Taking) (written written' : Option (List ℕ)) : Type 0 where
  pub count : ℕ
  pub read : Aggregating
  pub caught_up : CatchesUp old before limit count read after
  pub refused : Refuses why false read now new written written'

-- why no whole line was written, and what stands then
abbrev pub StopsBefore : StreamError → Aggregating → Taking → ℕ → ℕ → Aggregating → Taking → Option (List ℕ) → Option (List ℕ) → Type 0
StopsBefore why old before limit now new after written written' = RanOut why old before limit new after written written' ⊎ Unpublished why old before limit now new after written written'
