-- What the view of a stream comes to.
use Rattle.std.proofs.Common.{◌≡◌, ℕ, List, length, Option, Ok, Err, subst}
use Rattle.std.specs.Io.KnownBytes.{Appends}
use Rattle.tk_stream.specs.Sent.{IsCut}
use Rattle.tk_client.specs.Changes.{Timed}
use Rattle.tk_client.specs.Feeding.{ClientView}
use Rattle.tk_client.specs.Warnings.{LintsView}
use Rattle.tk_client.specs.declared.any_warnings.AnyWarning.{AnyWarning}
use Rattle.tk_fault.specs.declared.fault.AppFault.{AppFault}
use Rattle.tk_fault.specs.declared.fault.AppFault.TheVariants as faults
use Rattle.tk_reading.specs.Reads.{Reads, SawAll}
use Rattle.tk_reading.specs.Shown.{shown_of}
use Rattle.tk_report.specs.declared.options.TimesOptions.{TimesOptions}
use Rattle.tk_report.specs.declared.view.View.{View}
use Rattle.tk_report.specs.declared.view.Viewed.{Viewed}
use Rattle.tk_report.specs.Known.{are_untimed}
use Rattle.tk_report.specs.Timed.{timed_text_of, warned_of}
use Rattle.tk_report.specs.TimedViews.{LeadToStart, ViewsTimed}
use Rattle.tk_report.specs.Watched.{Warned, Warns}

module _ (lints : LintsView) (options : TimesOptions) (given left : Option (List ℕ)) where
  module _ (O : Type 0) (saw : List Timed → O → Type 0) (client : ClientView) (observer : O) where
    -- a stream that isn't taken has no warnings
    pub warns_none : (answer : AppFault) → Reads saw given left (Err answer) client observer → Warns lints options given left (Err answer) client
    warns_none faults.Memory h = tt
    warns_none faults.Read h = tt
    warns_none faults.Write h = absurd h
    warns_none (faults.Script line name) h = absurd h
    warns_none (faults.Stream lines fault) h = h

    -- these are the warnings of one that is taken
    pub warned_all : (all : SawAll saw given client observer) (list : List AnyWarning)
        → list ≡ warned_of lints options (shown_of all.bytes) client.start.tables client.start.times → Warned lints options given list client
    warned_all all list are = record { bytes = all.bytes; lines = all.lines; all = all.all; taken = all.taken; are = are }

  module _ (view : View) (old new : Option (List ℕ)) (client : ClientView) where
    -- a stream whose warnings aren't found isn't shown
    pub shows_none : (answer : AppFault) → Warns lints options given left (Err answer) client → ViewsTimed view lints options given left (Err answer) old new
    shows_none faults.Memory h = tt
    shows_none faults.Read h = tt
    shows_none faults.Write h = absurd h
    shows_none (faults.Script line name) h = absurd h
    shows_none (faults.Stream lines fault) h = h

    module _ (list : List AnyWarning) (w : Warned lints options given list client) (text : List ℕ)
        (is : text ≡ timed_text_of view lints options (shown_of w.bytes) client.start.tables client.start.times) where
      -- the tables and histograms to which all bytes lead
      abbrev leads : LeadToStart given client.start
      leads = record { bytes = w.bytes; all = w.all; lines = w.lines; come = w.taken.took.came }

      -- their text went out
      pub shows_all : (viewed : Viewed) → Appends old new text → viewed.warnings ≡ length (warned_of lints options (shown_of w.bytes) client.start.tables client.start.times)
          → viewed.untimed ≡ are_untimed client.start.tables client.start.times → ViewsTimed view lints options given left (Ok viewed) old new
      shows_all viewed wrote counted untimed = record {
        start = client.start;
        lead = leads;
        wrote = subst (Appends old new) is wrote;
        counted = counted;
        untimed = untimed;
      }

      -- a front of it went out
      pub shows_front : (front : List ℕ) → IsCut text front → Appends old new front → ViewsTimed view lints options given left (Err faults.Write) old new
      shows_front front cut wrote = record {
        start = client.start;
        lead = leads;
        front = front;
        cut = subst (λ t. IsCut t front) is cut;
        wrote = wrote;
      }
