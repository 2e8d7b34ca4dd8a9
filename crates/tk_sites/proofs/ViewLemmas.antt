-- What the view of a stream by place comes to.
use Rattle.std.proofs.Common.{◌≡◌, ℕ, List, length, Bool, Option, is_some, Ok, Err, ap, ◌∙◌, subst}
use Rattle.std.specs.Io.KnownBytes.{Appends}
use Rattle.tk_stream.specs.Sent.{IsCut}
use Rattle.tk_client.specs.Feeding.{ClientView}
use Rattle.tk_client.specs.Warnings.{LintsView}
use Rattle.tk_client.specs.declared.any_warnings.AnyWarning.{AnyWarning}
use Rattle.tk_fault.specs.declared.fault.AppFault.{AppFault}
use Rattle.tk_fault.specs.declared.fault.AppFault.TheVariants as faults
use Rattle.tk_reading.specs.Reads.{Reads, SawAll}
use Rattle.tk_reading.specs.Shown.{shown_of, tables_of, timed_of}
use Rattle.tk_reading.specs.declared.observes.Both.{Both}
use Rattle.tk_client.specs.Changes.{Timed}
use Rattle.tk_report.specs.TimedViews.{LeadToStart}
use Rattle.tk_sites.specs.declared.sites.Sites.{Sites}
use Rattle.tk_sites.specs.declared.sites_view.SitesView.{SitesView}
use Rattle.tk_sites.specs.declared.timed_sites.TimedSites.{TimedSites}
use Rattle.tk_sites.specs.Inner.{Follows, FollowsTimes}
use Rattle.tk_sites.specs.One.{written}
use Rattle.tk_sites.specs.Sites.{sites_of}
use Rattle.tk_sites.specs.TimedSites.{shown_times}
use Rattle.tk_sites.specs.Views.{ViewsSites, text_of, warned_in}

-- what has watched a stream's lines
abbrev pub saw : Both Sites TimedSites → List Timed → Both Sites TimedSites → Type 0
saw from seen it = Follows (tables_of seen) it.first × FollowsTimes (is_some from.second.changes) seen it.second

module _ (from : Both Sites TimedSites) (times : Bool) (shown : is_some from.second.changes ≡ times) (view : SitesView) (lints : LintsView) (wait_ms : Option ℕ)
    (given left old new : Option (List ℕ)) (client : ClientView) (it : Both Sites TimedSites) where
  -- a stream that isn't taken isn't shown
  pub shows_none : (answer : AppFault) → Reads (saw from) given left (Err answer) client it → ViewsSites view lints wait_ms times given left (Err answer) old new
  shows_none faults.Memory h = tt
  shows_none faults.Read h = tt
  shows_none faults.Write h = absurd h
  shows_none (faults.Script line name) h = absurd h
  shows_none (faults.Stream lines fault) h = h

  module _ (all : SawAll (saw from) given client it) (list : List AnyWarning) (warned : list ≡ warned_in lints wait_ms client.start) (text : List ℕ)
      (is : (b : Bool) (lines : List Timed) → Follows (tables_of lines) it.first → FollowsTimes b lines it.second
      → text ≡ written view client.start.tables client.start.times (sites_of (tables_of lines) client.start.tables list) (shown_times b lines client.start.tables client.start.times)) where
    abbrev leads : LeadToStart given client.start
    leads = record { bytes = all.bytes; all = all.all; lines = all.lines; come = all.taken.took.came }

    is_text : text ≡ text_of view lints wait_ms times all.bytes client.start
    is_text =
        is times (timed_of all.bytes) all.seen.0 (subst (λ b. FollowsTimes b (timed_of all.bytes) it.second) shown all.seen.1)
        ∙ ap (λ ws. written view client.start.tables client.start.times (sites_of (shown_of all.bytes) client.start.tables ws) (shown_times times (timed_of all.bytes) client.start.tables client.start.times))
        warned

    -- its text went out
    pub shows_all : (count : ℕ) → Appends old new text → count ≡ length list → ViewsSites view lints wait_ms times given left (Ok count) old new
    shows_all count wrote counted = record {
      start = client.start;
      lead = leads;
      wrote = subst (Appends old new) is_text wrote;
      counted = counted ∙ ap length warned;
    }

    -- a front of it went out
    pub shows_front : (front : List ℕ) → IsCut text front → Appends old new front → ViewsSites view lints wait_ms times given left (Err faults.Write) old new
    shows_front front cut wrote = record {
      start = client.start;
      lead = leads;
      front = front;
      cut = subst (λ t. IsCut t front) is_text cut;
      wrote = wrote;
    }
