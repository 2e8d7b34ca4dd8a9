-- What a page is made of, and what lines of a stream come to.
use Rattle.std.proofs.Common.{◌≡◌, ℕ, List, length, Bool, Option, Some, Ok, Err, true, ap, sym, ◌∙◌, subst}
use Rattle.std.specs.Io.KnownBytes.{Appends}
use Rattle.tk_client.specs.Changes.{Timed}
use Rattle.tk_client.specs.Feeding.{ClientView}
use Rattle.tk_client.specs.Warnings.{warnings_in}
use Rattle.tk_fault.specs.declared.fault.AppFault.{AppFault}
use Rattle.tk_fault.specs.declared.fault.AppFault.TheVariants as faults
use Rattle.tk_odd.specs.declared.limits.Limits.{Limits}
use Rattle.tk_paper.specs.Escaping.{PaperView, no_paper}
use Rattle.tk_paper.specs.Parts.{after_all}
use Rattle.tk_paper.specs.declared.marks.Place.TheVariants as places
use Rattle.tk_stream.specs.Tables.{TablesView}
use Rattle.tk_page.specs.Charges.{Blames, Places}
use Rattle.tk_page.specs.Courses.{Courses, courses_of}
use Rattle.tk_page.specs.Drawn.{DrawsSections, sections}
use Rattle.tk_page.specs.Kept.{Tells}
use Rattle.tk_page.specs.Pages.{IsDrawnAfter, PagesWith}
use Rattle.tk_page.specs.declared.blame.Blame.{Blame}
use Rattle.tk_page.specs.declared.blamed.Blamed.{Blamed}
use Rattle.tk_page.specs.declared.figures.Scale.{Scale}
use Rattle.tk_page.specs.declared.history.History.{History}
use Rattle.tk_page.specs.declared.oddities.Signs.{Signs}
use Rattle.tk_page.proofs.HistoryLemmas.{tell_of}
use Rattle.tk_page.proofs.PlaceLemmas.{sections_to}
use Rattle.tk_reading.specs.Reads.{Reads, SawAll}
use Rattle.tk_reading.specs.Shown.{shown_of, tables_of, timed_of}
use Rattle.tk_report.specs.TimedViews.{LeadToStart}
use Rattle.tk_reading.specs.declared.observes.Both.{Both}
use Rattle.tk_series.specs.Limited.{LimitedView}
use Rattle.tk_sites.specs.Inner.{Follows as AddsUp, FollowsTimes}
use Rattle.tk_sites.specs.declared.sites.Sites.{Sites}
use Rattle.tk_sites.specs.declared.sums.Sums.{Sums}
use Rattle.tk_sites.specs.declared.timed_sites.TimedSites.{TimedSites}
use Rattle.tk_sites.specs.declared.times.SiteTimes.{SiteTimes}
use Rattle.tk_stream.specs.Sent.{IsCut}

-- ---- where a page ends

module _ (title : List ℕ) (scale : Scale) (signs : Signs) (courses : Courses) (blamed : List Blamed) (times : Option (LimitedView SiteTimes)) (held : Places) (sites : LimitedView Sums) (tables : TablesView) (old new : PaperView) (is : old ≡ no_paper)
    (d : DrawsSections title scale signs courses blamed times held sites tables old new) where
  -- a page that began with no text ends between tags
  pub ends_between : new.place ≡ Some places.Text
  ends_between =
      d.wrote.place ∙ ap (λ (p : PaperView). after_all (sections title scale signs courses blamed times held sites tables d.site_ranks d.ranks d.height) p.place) is
      ∙ sections_to title scale signs courses blamed times held sites tables d.site_ranks d.ranks d.height

  -- the same, of a page whose text is known
  pub drawn_from : (inner : List ℕ) → inner ≡ new.text → DrawsSections title scale signs courses blamed times held sites tables no_paper (record { text = inner; place = Some places.Text })
  drawn_from inner text =
      let same : new ≡ record { text = inner; place = Some places.Text } = λ i. record { text = sym text i; place = ends_between i } in
      subst (λ p. DrawsSections title scale signs courses blamed times held sites tables p (record { text = inner; place = Some places.Text })) is (subst (DrawsSections title scale signs courses blamed times held sites tables old) same d)

-- ---- what is written

-- a stream that isn't taken has no page
pub pages_none : (O : Type 0) (saw : List Timed → O → Type 0) (title : List ℕ) (limits : Limits) (given left old new : Option (List ℕ)) (now : ClientView) (observer : O) (answer : AppFault)
    → Reads saw given left (Err answer) now observer → PagesWith title limits given left (Err answer) old new
pages_none O saw title limits given left old new now observer faults.Memory h = tt
pages_none O saw title limits given left old new now observer faults.Read h = tt
pages_none O saw title limits given left old new now observer faults.Write h = absurd h
pages_none O saw title limits given left old new now observer (faults.Script line name) h = absurd h
pages_none O saw title limits given left old new now observer (faults.Stream lines fault) h = h

-- what a history, places, with their histograms or not, and a diagnosis have seen
abbrev pub WatchedBy : Bool → Limits → List Timed → Both (Both History (Both Sites TimedSites)) Blame → Type 0
WatchedBy times limits seen both =
    (Tells (tables_of seen) both.first.first × (AddsUp (tables_of seen) both.first.second.first × FollowsTimes times seen both.first.second.second)) × (Blames (tables_of seen) both.second × (both.second.diagnosis.limits ≡ limits))

abbrev pub Watched : Limits → List Timed → Both (Both History (Both Sites TimedSites)) Blame → Type 0
Watched = WatchedBy true

-- with histograms
pub with_times : (times : Bool) (limits : Limits) (given : Option (List ℕ)) (now : ClientView) (seen : Both (Both History (Both Sites TimedSites)) Blame) → times ≡ true
    → SawAll (WatchedBy times limits) given now seen → SawAll (Watched limits) given now seen
with_times times limits given now seen is h = subst (λ b. SawAll (WatchedBy b limits) given now seen) is h

module _ (title : List ℕ) (limits : Limits) (given left old new : Option (List ℕ)) (client : ClientView) (seen : Both (Both History (Both Sites TimedSites)) Blame) (text : List ℕ)
    (told : SawAll (Watched limits) given client seen)
    (drawn : IsDrawnAfter title limits (timed_of told.bytes) (courses_of seen.first.first) client.start text) where
  abbrev leads : LeadToStart given client.start
  leads = record { bytes = told.bytes; all = told.all; lines = told.lines; come = told.taken.took.came }

  -- the page went out
  pub pages_all : (warnings : ℕ) → Appends old new text → warnings ≡ length (warnings_in limits.lints client.start.tables) → PagesWith title limits given left (Ok warnings) old new
  pages_all warnings wrote counted = record {
    start = client.start;
    lead = leads;
    text = text;
    page = record { courses = courses_of seen.first.first; told = tell_of (shown_of told.bytes) seen.first.first told.seen.0.0; drawn = drawn };
    wrote = wrote;
    counted = counted;
  }

  -- a front of it went out
  pub pages_front : (front : List ℕ) → IsCut text front → Appends old new front → PagesWith title limits given left (Err faults.Write) old new
  pages_front front cut wrote = record {
    start = client.start;
    lead = leads;
    text = text;
    page = record { courses = courses_of seen.first.first; told = tell_of (shown_of told.bytes) seen.first.first told.seen.0.0; drawn = drawn };
    front = front;
    cut = cut;
    wrote = wrote;
  }
