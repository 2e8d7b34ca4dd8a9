-- What the view of a stream with what is odd comes to.
use Rattle.std.proofs.Common.{◌≡◌, ℕ, List, length, Bool, Option, Ok, Err, ap, ap₂, sym, ◌∙◌, subst}
use Rattle.std.specs.Io.KnownBytes.{Appends}
use Rattle.tk_stream.specs.Sent.{IsCut}
use Rattle.tk_stream.specs.Tables.{TablesView}
use Rattle.tk_client.specs.Changes.{Timed}
use Rattle.tk_client.specs.Feeding.{ClientView}
use Rattle.tk_fault.specs.declared.fault.AppFault.{AppFault}
use Rattle.tk_fault.specs.declared.fault.AppFault.TheVariants as faults
use Rattle.tk_reading.specs.Reads.{Reads, SawAll}
use Rattle.tk_reading.specs.Shown.{shown_of, tables_of}
use Rattle.tk_report.specs.declared.view.View.{View}
use Rattle.tk_odd.specs.declared.limits.Limits.{Limits}
use Rattle.tk_odd.specs.declared.span.Span.{Span}
use Rattle.tk_odd.specs.Diagnosis.{standing_of}
use Rattle.tk_odd.specs.Findings.{Told, told_of}
use Rattle.tk_odd.specs.Inner.{FollowsSpan}
use Rattle.tk_odd.specs.Span.{span_of}
use Rattle.tk_found.specs.Views.{LeadToFindings, ViewsFindings, found_in, found_text}

-- what a span has seen, from what it was
abbrev pub saw : Span → List Timed → Span → Type 0
saw from seen it = FollowsSpan (tables_of seen) it × (it.since ≡ from.since) × (it.diagnosis.limits ≡ from.diagnosis.limits)

module _ (from : Span) (view : View) (times : Bool) (given left old new : Option (List ℕ)) (client : ClientView) (it : Span) where
  -- a stream that isn't taken isn't shown
  pub shows_none : (answer : AppFault) → Reads (saw from) given left (Err answer) client it → ViewsFindings view from.diagnosis.limits from.since times given left (Err answer) old new
  shows_none faults.Memory h = tt
  shows_none faults.Read h = tt
  shows_none faults.Write h = absurd h
  shows_none (faults.Script line name) h = absurd h
  shows_none (faults.Stream lines fault) h = h

  module _ (all : SawAll (saw from) given client it) (tables : TablesView) (same : tables ≡ client.start.tables) (list : List Told)
      (found : (shown : List TablesView) → FollowsSpan shown it → list ≡ told_of it.diagnosis.limits (standing_of it.diagnosis.limits (span_of it.since shown)) tables)
      (text : List ℕ) (is : text ≡ found_text view times client.start list) where
    -- this is odd about what all bytes come to
    is_found : list ≡ found_in from.diagnosis.limits from.since all.bytes client.start.tables
    is_found =
        found (shown_of all.bytes) all.seen.0
        ∙ ap₂ (λ (since : Option ℕ) (limits : Limits). told_of limits (standing_of limits (span_of since (shown_of all.bytes))) tables) all.seen.1 all.seen.2
        ∙ ap (λ (t : TablesView). found_in from.diagnosis.limits from.since all.bytes t) same

    leads : LeadToFindings given from.diagnosis.limits from.since client.start list
    leads = record { bytes = all.bytes; all = all.all; lines = all.lines; come = all.taken.took.came; found = is_found }

    -- its text went out
    pub shows_all : (count : ℕ) → Appends old new text → count ≡ length list → ViewsFindings view from.diagnosis.limits from.since times given left (Ok count) old new
    shows_all count wrote counted = record {
      start = client.start;
      list = list;
      lead = leads;
      wrote = subst (Appends old new) is wrote;
      counted = counted;
    }

    -- a front of it went out
    pub shows_front : (front : List ℕ) → IsCut text front → Appends old new front → ViewsFindings view from.diagnosis.limits from.since times given left (Err faults.Write) old new
    shows_front front cut wrote = record {
      start = client.start;
      list = list;
      lead = leads;
      front = front;
      cut = subst (λ t. IsCut t front) is cut;
      wrote = wrote;
    }
