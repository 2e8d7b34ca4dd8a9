-- What the view of a stream by place writes.
use Rattle.std.specs.Prelude.{◌≡◌, ℕ, List, length, Bool, Option, None, Result, Ok, Err}
use Rattle.std.specs.Io.KnownBytes.{Appends}
use Rattle.tk_stream.specs.Sent.{IsCut}
use Rattle.tk_client.specs.Meaning.{Start}
use Rattle.tk_client.specs.AnyWarnings.{all_warnings_in}
use Rattle.tk_client.specs.Warnings.{LintsView}
use Rattle.tk_client.specs.declared.any_warnings.AnyWarning.{AnyWarning}
use Rattle.tk_client.specs.declared.any_warnings.TimeLimits.{TimeLimits}
use Rattle.tk_fault.specs.declared.fault.AppFault.{AppFault}
use Rattle.tk_fault.specs.declared.fault.AppFault.TheVariants as faults
use Rattle.tk_reading.specs.Outcomes.{HaveFault}
use Rattle.tk_reading.specs.Shown.{shown_of, timed_of}
use Rattle.tk_report.specs.TimedViews.{LeadToStart}
use Rattle.tk_sites.specs.One.{written}
use Rattle.tk_sites.specs.Sites.{sites_of}
use Rattle.tk_sites.specs.TimedSites.{shown_times}
use Rattle.tk_sites.specs.declared.sites_view.SitesView.{SitesView}

-- waits are long from so many milliseconds on, if that is asked for, and no poll is
abbrev pub long_waits : Option ℕ → TimeLimits
long_waits wait_ms = record { poll_ms = None; wait_ms = wait_ms }

-- the warnings of tables and histograms, long waits among them if these are asked for
abbrev pub warned_in : LintsView → Option ℕ → Start → List AnyWarning
warned_in lints wait_ms start = all_warnings_in lints (long_waits wait_ms) start.tables start.times

-- what is written of a stream of these bytes, which come to these tables and histograms: with histograms where they are shown
abbrev pub text_of : SitesView → LintsView → Option ℕ → Bool → List ℕ → Start → List ℕ
text_of view lints wait_ms times bytes start =
    written view start.tables start.times (sites_of (shown_of bytes) start.tables (warned_in lints wait_ms start)) (shown_times times (timed_of bytes) start.tables start.times)

-- the text was written, and the warnings were counted: each of a task, not of a place
pub record ShowsSites (given : Option (List ℕ)) (view : SitesView) (lints : LintsView) (wait_ms : Option ℕ) (times : Bool) (count : ℕ) (old new : Option (List ℕ)) : Type 0 where
  pub start : Start
  pub lead : LeadToStart given start
  pub wrote : Appends old new (text_of view lints wait_ms times lead.bytes start)
  pub counted : count ≡ length (warned_in lints wait_ms start)

-- a proper front of the text was written
pub record ShowsSitesFront (given : Option (List ℕ)) (view : SitesView) (lints : LintsView) (wait_ms : Option ℕ) (times : Bool) (old new : Option (List ℕ)) : Type 0 where
  pub start : Start
  pub lead : LeadToStart given start
  pub front : List ℕ
  pub cut : IsCut (text_of view lints wait_ms times lead.bytes start) front
  pub wrote : Appends old new front

-- what such a view came to, by its answer: of the reader's bytes that were given and those that are left, and of the writer's before and after
abbrev pub ViewsSites : SitesView → LintsView → Option ℕ → Bool → Option (List ℕ) → Option (List ℕ) → Result ℕ AppFault → Option (List ℕ) → Option (List ℕ) → Type 0
ViewsSites view lints wait_ms times given left (Ok count) old new = ShowsSites given view lints wait_ms times count old new
ViewsSites view lints wait_ms times given left (Err faults.Write) old new = ShowsSitesFront given view lints wait_ms times old new
ViewsSites view lints wait_ms times given left (Err (faults.Stream lines fault)) old new = HaveFault given left lines fault
ViewsSites view lints wait_ms times given left (Err faults.Memory) old new = Unit {0}
ViewsSites view lints wait_ms times given left (Err faults.Read) old new = Unit {0}
ViewsSites view lints wait_ms times given left (Err (faults.Script line name)) old new = ⊥
