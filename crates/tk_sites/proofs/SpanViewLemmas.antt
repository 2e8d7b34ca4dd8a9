-- What reading up to a moment, and the view of a span by place, come to.
use Rattle.std.proofs.Common.{◌≡◌, ℕ, List, [], length, Bool, Option, is_some, Ok, Err, ap, ◌∙◌, subst}
use Rattle.std.specs.Io.KnownBytes.{Appends}
use Rattle.tk_stream.specs.Sent.{IsCut}
use Rattle.tk_stream.specs.Tables.{TablesView}
use Rattle.tk_client.specs.Changes.{Timed}
use Rattle.tk_client.specs.Feeding.{ClientView}
use Rattle.tk_client.specs.Warnings.{LintsView}
use Rattle.tk_client.specs.declared.any_warnings.AnyWarning.{AnyWarning}
use Rattle.tk_fault.specs.declared.fault.AppFault.{AppFault}
use Rattle.tk_fault.specs.declared.fault.AppFault.TheVariants as faults
use Rattle.tk_reading.specs.Reads.{Reads, SawAll}
use Rattle.tk_reading.specs.Shown.{shown_of, tables_of, timed_of}
use Rattle.tk_reading.specs.declared.observes.Both.{Both}
use Rattle.tk_report.specs.TimedViews.{LeadToStart}
use Rattle.tk_sites.specs.Inner.{Follows, FollowsTimes}
use Rattle.tk_sites.specs.Sites.{sites_of}
use Rattle.tk_sites.specs.SpanLines.{span_text}
use Rattle.tk_sites.specs.SpanViews.{ReadsPlaces, ViewsSpan, span_text_of}
use Rattle.tk_sites.specs.TimedSites.{shown_times}
use Rattle.tk_sites.specs.Views.{warned_in}
use Rattle.tk_sites.specs.declared.places_then.PlacesThen.{PlacesThen}
use Rattle.tk_sites.specs.declared.sites.Sites.{Sites}
use Rattle.tk_sites.specs.declared.timed_sites.TimedSites.{TimedSites}
use Rattle.tk_sites.proofs.ViewLemmas.{saw}

module _ (from : Both Sites TimedSites) (times : Bool) (shown : is_some from.second.changes ≡ times) (given left : Option (List ℕ)) (client : ClientView) (it : Both Sites TimedSites) where
  -- a stream that isn't taken is not kept
  pub keeps_none : (answer : AppFault) → Reads (saw from) given left (Err answer) client it → ReadsPlaces times given left (Err answer)
  keeps_none faults.Memory h = tt
  keeps_none faults.Read h = tt
  keeps_none faults.Write h = absurd h
  keeps_none (faults.Script line name) h = absurd h
  keeps_none (faults.Stream lines fault) h = h

  pub keeps_all : SawAll (saw from) given client it → (old : PlacesThen) → old.moment ≡ client.start.tables.now
      → ((lines : List TablesView) → Follows lines it.first → old.sites ≡ sites_of lines client.start.tables [])
      → ((b : Bool) (lines : List Timed) → FollowsTimes b lines it.second → old.times ≡ shown_times b lines client.start.tables client.start.times)
      → ReadsPlaces times given left (Ok old)
  keeps_all all old moment sites timed = record {
    start = client.start;
    lead = record { bytes = all.bytes; all = all.all; lines = all.lines; come = all.taken.took.came };
    moment = moment;
    sites = sites (shown_of all.bytes) all.seen.0;
    times = timed times (timed_of all.bytes) (subst (λ b. FollowsTimes b (timed_of all.bytes) it.second) shown all.seen.1);
  }

module _ (from : Both Sites TimedSites) (moment : PlacesThen) (shown : is_some from.second.changes ≡ is_some moment.times) (lints : LintsView) (wait_ms : Option ℕ)
    (given left old new : Option (List ℕ)) (client : ClientView) (it : Both Sites TimedSites) where
  -- a stream that isn't taken isn't shown
  pub shows_none : (answer : AppFault) → Reads (saw from) given left (Err answer) client it → ViewsSpan moment lints wait_ms given left (Err answer) old new
  shows_none faults.Memory h = tt
  shows_none faults.Read h = tt
  shows_none faults.Write h = absurd h
  shows_none (faults.Script line name) h = absurd h
  shows_none (faults.Stream lines fault) h = h

  module _ (all : SawAll (saw from) given client it) (list : List AnyWarning) (warned : list ≡ warned_in lints wait_ms client.start) (text : List ℕ)
      (is : (b : Bool) (lines : List Timed) → Follows (tables_of lines) it.first → FollowsTimes b lines it.second
      → text ≡ span_text moment client.start.tables (sites_of (tables_of lines) client.start.tables list) (shown_times b lines client.start.tables client.start.times)) where
    abbrev leads : LeadToStart given client.start
    leads = record { bytes = all.bytes; all = all.all; lines = all.lines; come = all.taken.took.came }

    is_text : text ≡ span_text_of moment lints wait_ms all.bytes client.start
    is_text =
        is (is_some moment.times) (timed_of all.bytes) all.seen.0 (subst (λ b. FollowsTimes b (timed_of all.bytes) it.second) shown all.seen.1)
        ∙ ap (λ ws. span_text moment client.start.tables (sites_of (shown_of all.bytes) client.start.tables ws) (shown_times (is_some moment.times) (timed_of all.bytes) client.start.tables client.start.times))
        warned

    -- its text went out
    pub shows_all : (count : ℕ) → Appends old new text → count ≡ length list → ViewsSpan moment lints wait_ms given left (Ok count) old new
    shows_all count wrote counted = record {
      start = client.start;
      lead = leads;
      wrote = subst (Appends old new) is_text wrote;
      counted = counted ∙ ap length warned;
    }

    -- a front of it went out
    pub shows_front : (front : List ℕ) → IsCut text front → Appends old new front → ViewsSpan moment lints wait_ms given left (Err faults.Write) old new
    shows_front front cut wrote = record {
      start = client.start;
      lead = leads;
      front = front;
      cut = subst (λ t. IsCut t front) is_text cut;
      wrote = wrote;
    }
