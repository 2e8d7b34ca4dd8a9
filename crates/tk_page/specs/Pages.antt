-- What the page of a stream is, and what writing it came to.
use Rattle.std.specs.Prelude.{◌≡◌, ℕ, List, [], ◌++◌, codes, length, Option, Some, Result, Ok, Err, true}
use Rattle.std.specs.Io.KnownBytes.{Appends}
use Rattle.tk_client.specs.Changes.{Timed}
use Rattle.tk_client.specs.Meaning.{Start}
use Rattle.tk_client.specs.Warnings.{LintsView, warnings_in}
use Rattle.tk_fault.specs.declared.fault.AppFault.{AppFault}
use Rattle.tk_fault.specs.declared.fault.AppFault.TheVariants as faults
use Rattle.tk_odd.specs.Diagnosis.{standing_of}
use Rattle.tk_odd.specs.Findings.{Told, told_of}
use Rattle.tk_odd.specs.declared.limits.Limits.{Limits}
use Rattle.tk_page.specs.declared.blamed.Blamed.{Blamed}
use Rattle.tk_page.specs.declared.frame.TheConstants.{HEAD, TAIL}
use Rattle.tk_page.specs.Charges.{Places, TellWhom, places_of}
use Rattle.tk_page.specs.Courses.{Courses, TellOf}
use Rattle.tk_page.specs.Drawn.{DrawsPage}
use Rattle.tk_paper.specs.Escaping.{Woven, no_paper}
use Rattle.tk_paper.specs.declared.marks.Place.TheVariants as places
use Rattle.tk_reading.specs.Outcomes.{HaveFault}
use Rattle.tk_reading.specs.Shown.{shown_of, tables_of, timed_of}
use Rattle.tk_report.specs.TimedViews.{LeadToStart}
use Rattle.tk_series.specs.Limited.{LimitedView}
use Rattle.tk_sites.specs.Sites.{sites_of}
use Rattle.tk_sites.specs.TimedSites.{shown_times}
use Rattle.tk_sites.specs.declared.sums.Sums.{Sums}
use Rattle.tk_sites.specs.declared.times.SiteTimes.{SiteTimes}
use Rattle.tk_stream.specs.Sent.{IsCut}
use Rattle.tk_stream.specs.Tables.{TablesView}

-- the page of tables, courses, who waited for whom, places and what is odd: between the page's own head and end stand its parts, and every byte is the page's own markup or an
-- escaped byte of a text, each where it may stand
pub record IsDrawn (title : List ℕ) (limits : Limits) (findings : List Told) (courses : Courses) (blamed : List Blamed) (times : Option (LimitedView SiteTimes)) (held : Places) (sites : LimitedView Sums) (tables : TablesView) (text : List ℕ) : Type 0 where
  pub inner : List ℕ
  pub drawn : DrawsPage title limits findings courses blamed times held sites tables no_paper (record { text = inner; place = Some places.Text })
  pub woven : ∥ Woven inner places.Text ∥₁
  pub framed : text ≡ (HEAD.now ++ inner) ++ TAIL.now

-- the page of tables and histograms after these lines: it is drawn of them, of what is odd, of these courses, of the two places for which others waited
-- longest, each with the course of what it is charged with, of what each place is charged with, and of all places with their histograms
pub record IsDrawnAfter (title : List ℕ) (limits : Limits) (lines : List Timed) (courses : Courses) (start : Start) (text : List ℕ) : Type 0 where
  pub blamed : List Blamed
  pub whom : TellWhom limits (tables_of lines) start.tables.now blamed
  pub drawn : IsDrawn title limits (told_of limits (standing_of limits (tables_of lines)) start.tables) courses blamed
      (shown_times true lines start.tables start.times) (places_of limits (tables_of lines)) (sites_of (tables_of lines) start.tables []) start.tables text

-- the page of this title, of what these bytes lead to: it is drawn after their lines, of the course of each task over just these
pub record IsPage (title : List ℕ) (limits : Limits) (bytes : List ℕ) (start : Start) (text : List ℕ) : Type 0 where
  pub courses : Courses
  pub told : TellOf (shown_of bytes) courses
  pub drawn : IsDrawnAfter title limits (timed_of bytes) courses start text

-- a page was written of the tables and histograms to which all bytes lead, and the warnings of these tables were counted
pub record WritesPage (title : List ℕ) (limits : Limits) (given : Option (List ℕ)) (warnings : ℕ) (old new : Option (List ℕ)) : Type 0 where
  pub start : Start
  pub lead : LeadToStart given start
  pub text : List ℕ
  pub page : IsPage title limits lead.bytes start text
  pub wrote : Appends old new text
  pub counted : warnings ≡ length (warnings_in limits.lints start.tables)

-- a proper front of such a page was written
pub record WritesFront (title : List ℕ) (limits : Limits) (given : Option (List ℕ)) (old new : Option (List ℕ)) : Type 0 where
  pub start : Start
  pub lead : LeadToStart given start
  pub text : List ℕ
  pub page : IsPage title limits lead.bytes start text
  pub front : List ℕ
  pub cut : IsCut text front
  pub wrote : Appends old new front

-- what the page of a stream came to, by its answer: of the reader's bytes that were given and those that are left, and of the
-- writer's before and after
abbrev pub PagesWith : List ℕ → Limits → Option (List ℕ) → Option (List ℕ) → Result ℕ AppFault → Option (List ℕ) → Option (List ℕ) → Type 0
PagesWith title limits given left (Ok warnings) old new = WritesPage title limits given warnings old new
PagesWith title limits given left (Err faults.Write) old new = WritesFront title limits given old new
PagesWith title limits given left (Err (faults.Stream lines fault)) old new = HaveFault given left lines fault
PagesWith title limits given left (Err faults.Memory) old new = Unit {0}
PagesWith title limits given left (Err faults.Read) old new = Unit {0}
PagesWith title limits given left (Err (faults.Script line name)) old new = ⊥

-- the limits where nothing is said of long polls: one takes 100 ms or longer
abbrev pub usual_limits : LintsView → Limits
usual_limits lints = record { long = 100000000; lints = lints }

-- the same by those limits, and with the program's name as its title
abbrev pub Pages : LintsView → Option (List ℕ) → Option (List ℕ) → Result ℕ AppFault → Option (List ℕ) → Option (List ℕ) → Type 0
Pages lints = PagesWith (codes "taskscope") (usual_limits lints)
