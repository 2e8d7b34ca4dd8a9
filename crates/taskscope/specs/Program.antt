-- What a run of the program does with a script, with a stream, and for the demo.
use Rattle.std.specs.Prelude.{◌≡◌, ◌⊎◌, ◌==◌, ◌&&◌, is_some, ℕ, Bool, true, false, List, [], Option, Some, None, Result, Ok, Err, IfErr, if◌then◌else◌, option_map, unwrap_or}
use Rattle.std.specs.Borrow.{Bor}
use Rattle.std.specs.Io.KnownBytes.{Appends}
use Rattle.tk_client.specs.Warnings.{LintsView}
use Rattle.tk_app.specs.Demo.{Demonstrates}
use Rattle.tk_live.specs.Script.{ReadsAndRuns}
use Rattle.tk_metrics.specs.Keeping.{Keeps}
use Rattle.tk_metrics.specs.Places.{Texts}
use Rattle.tk_metrics.specs.Streams.{Measures}
use Rattle.tk_odd.specs.declared.limits.Limits.{Limits}
use Rattle.tk_found.specs.Views.{ViewsFindings}
use Rattle.tk_sites.specs.SpanViews.{ArePlaces, ViewsSpan}
use Rattle.tk_sites.specs.Views.{ViewsSites}
use Rattle.tk_sites.specs.declared.places_then.PlacesThen.{PlacesThen}
use Rattle.tk_sites.specs.declared.sites_view.SitesView.{SitesView}
use Rattle.tk_sites.specs.declared.sites_view.SitesView.TheVariants.{All, One}
use Rattle.tk_page.specs.Changed.{PagesChanges}
use Rattle.tk_page.specs.Pages.{PagesWith}
use Rattle.tk_compare.specs.Recorded.{Records}
use Rattle.tk_compare.specs.Views.{Compares}
use Rattle.tk_compare.specs.declared.change.Margin.{Margin}
use Rattle.tk_compare.specs.declared.recorded.Recorded.{Recorded}
use Rattle.tk_report.specs.Timed.{no_times}
use Rattle.tk_report.specs.TimedViews.{ViewsTimed, count_of}
use Rattle.tk_report.specs.Views.{IsOfWriter, Views}
use Rattle.tk_report.specs.declared.options.TimesOptions.{TimesOptions}
use Rattle.tk_fault.specs.declared.fault.AppFault.{AppFault}
use Rattle.tk_frame.specs.Typed.{nothing}
use Rattle.tk_screen.specs.declared.canvas.Canvas.{Canvas}
use Rattle.tk_screen.specs.declared.canvas.Canvas.TheVariants.{Plain}
use Rattle.tk_until.specs.End.{EndsAt}
use Rattle.tk_until.specs.Front.{front}
use Rattle.tk_watch.specs.Keyed.{Coming, WatchesKeys}
use Rattle.tk_watch.specs.Watches.{Watches}
use Rattle.tk_watch.specs.declared.drawing.Screen.{Screen}
use Rattle.tk_report.specs.declared.view.View.{View}
use Rattle.tk_report.specs.declared.view.View.TheVariants.{Report, Lint}
use Rattle.tk_report.specs.declared.view.Viewed.{Viewed}
use Rattle.taskscope.specs.Moments.{moment_before}
use Rattle.taskscope.specs.declared.moments.Moment.{Moment}
use Rattle.taskscope.specs.declared.moments.Moment.TheVariants.{At, BeforeEnd}
use Rattle.taskscope.specs.declared.command_line.Request.{Request}
use Rattle.taskscope.specs.declared.command_line.Request.TheVariants.{Compare, Demo, Find, Metrics, Page, PageChanges, Run, Show, Sites, Watch}
use Rattle.taskscope.specs.declared.command_line.CompareOptions.{CompareOptions}
use Rattle.taskscope.specs.declared.command_line.MetricsOptions.{MetricsOptions}
use Rattle.taskscope.specs.declared.command_line.WatchOptions.{WatchOptions}

-- the status that tells an outcome: 0 without a fault, 1 with one
abbrev pub status_of : Result (Unit {0}) AppFault → ℕ
status_of (Ok done) = 0
status_of (Err fault) = 1

-- the gate of the program is open to each worker
abbrev pub open_gate : ℕ → Bool → Type 0
open_gate worker answer = answer ≡ true

-- a script is read and run, what it writes goes out, and the status tells the outcome
pub record RunsScript (known old new : Option (List ℕ)) (status : ℕ) : Type 0 where
  pub outcome : Result (Unit {0}) AppFault
  pub told : status ≡ status_of outcome
  -- line by line, up to its first fault: what its text tells is a function of the text
  pub written : List ℕ
  pub runs : ReadsAndRuns open_gate known outcome written
  pub appends : Appends old new written

-- the status of a view with so many warnings or findings: `lint` alone tells of them, by 3
abbrev pub status_at : View → ℕ → ℕ
status_at Report warnings = 0
status_at Lint warnings = if warnings == 0 then 0 else 3

-- the status that tells what a view came to
abbrev pub view_status : View → Result Viewed AppFault → ℕ
view_status view (Ok viewed) = status_at view viewed.warnings
view_status view (Err fault) = 1

-- the status that tells of so many findings, or of so many warnings by place, or of a fault
abbrev pub found_status : View → Result ℕ AppFault → ℕ
found_status view (Ok findings) = status_at view findings
found_status view (Err fault) = 1

-- whether a line on the error output says that long polls go by the lines of the stream. It does if they are asked for, and a task has no
-- histogram
abbrev pub is_noted : TimesOptions → Result Viewed AppFault → Bool
is_noted times (Ok viewed) = viewed.untimed && is_some times.limits.poll_ms
is_noted times (Err fault) = false

-- a stream is read and viewed, with what these options ask for of poll times, and the status tells the outcome
pub record ViewsStream (view : View) (lints : LintsView) (times : TimesOptions) (given left old new : Option (List ℕ))
    (status : ℕ) : Type 0 where
  pub outcome : Result Viewed AppFault
  pub told : status ≡ view_status view outcome
  pub views : ViewsTimed view lints times given left outcome old new
  -- with nothing of poll times it is the view of the tables alone
  pub plain : times ≡ no_times → Views view lints given left (count_of outcome) old new
  -- only a writer's fault comes once something was written
  pub unwritten : IfErr outcome (λ fault. (IsOfWriter fault → ⊥) → new ≡ old)

-- a stream is read and its findings are written, by these limits. They are those since a moment if one is given, and with histograms if
-- they are asked for. The status tells the outcome
pub record FindsInStream (view : View) (limits : Limits) (since : Option ℕ) (times : Bool) (given left old new : Option (List ℕ))
    (status : ℕ) : Type 0 where
  pub outcome : Result ℕ AppFault
  pub told : status ≡ found_status view outcome
  pub views : ViewsFindings view limits since times given left outcome old new
  -- only a writer's fault comes once something was written
  pub unwritten : IfErr outcome (λ fault. (IsOfWriter fault → ⊥) → new ≡ old)

-- a view of one place tells by its status as a report does
abbrev pub view_in : SitesView → View
view_in (All view) = view
view_in (One number) = Report

-- a stream is read and its tasks are added up by place. Long waits are among the warnings if they are asked for, and histograms stand there
-- if these are. The status tells the outcome
pub record AddsUpStream (view : SitesView) (lints : LintsView) (wait_ms : Option ℕ) (times : Bool) (given left old new : Option (List ℕ))
    (status : ℕ) : Type 0 where
  pub outcome : Result ℕ AppFault
  pub told : status ≡ found_status (view_in view) outcome
  pub views : ViewsSites view lints wait_ms times given left outcome old new
  -- only a writer's fault comes once something was written
  pub unwritten : IfErr outcome (λ fault. (IsOfWriter fault → ⊥) → new ≡ old)

-- the sums that places had at a moment, by a file's lines up to it. It is said which readers have the file's bytes, and what a reader has
-- left
abbrev pub HadCome : {F : Type 0} → (F → Option (List ℕ)) → (F → Type 0) → ℕ → Bool → PlacesThen → Type 0
HadCome {F} remaining is_of since times earlier =
    (file : F) × (is_of file × ArePlaces (option_map (front (Some since)) (remaining file)) times earlier)

-- a stream is read and it is written what its places came to since they had come to this, and the status tells the outcome
pub record AddsUpSpan (earlier : PlacesThen) (lints : LintsView) (wait_ms : Option ℕ) (given left old new : Option (List ℕ))
    (status : ℕ) : Type 0 where
  pub outcome : Result ℕ AppFault
  pub told : status ≡ found_status Report outcome
  pub views : ViewsSpan earlier lints wait_ms given left outcome old new
  -- only a writer's fault comes once something was written
  pub unwritten : IfErr outcome (λ fault. (IsOfWriter fault → ⊥) → new ≡ old)

-- tasks are added up by place, of all of a stream or since a moment. The earlier part of a file says what they had at that moment. Or that
-- could not be read, and nothing was done
abbrev pub AddsUpSince : {F : Type 0} → (F → Option (List ℕ)) → (F → Type 0) → Option ℕ → SitesView → LintsView → Option ℕ → Bool
    → Option (List ℕ) → Option (List ℕ) → Option (List ℕ) → Option (List ℕ) → ℕ → Type 0
AddsUpSince remaining is_before None view lints wait_ms times given left old new status =
    AddsUpStream view lints wait_ms times given left old new status
AddsUpSince remaining is_before (Some since) view lints wait_ms times given left old new status =
    ((earlier : PlacesThen) × (HadCome remaining is_before since times earlier
    × AddsUpSpan earlier lints wait_ms given left old new status))
    ⊎ ((status ≡ 1) × ((left ≡ given) × (new ≡ old)))

-- the status that tells what a page came to: warnings are shown in it
abbrev pub page_status : Result ℕ AppFault → ℕ
page_status (Ok warnings) = 0
page_status (Err fault) = 1

-- a stream is read and drawn as one page of this title, with what is odd by these limits, and the status tells the outcome
pub record PagesStream (title : List ℕ) (limits : Limits) (given left old new : Option (List ℕ)) (status : ℕ) : Type 0 where
  pub outcome : Result ℕ AppFault
  pub told : status ≡ page_status outcome
  pub pages : PagesWith title limits given left outcome old new
  -- only a writer's fault comes once something was written
  pub unwritten : IfErr outcome (λ fault. (IsOfWriter fault → ⊥) → new ≡ old)

-- so many rows at most: 0 asks for as many as fit
abbrev pub rows_by : ℕ → Option ℕ
rows_by n = if n == 0 then None else Some n

-- what a watch's screens show, of the tasks that a text names. They are drawn on the terminal, unless text is asked for
abbrev pub screen_by : WatchOptions → Bor (List ℕ) → Canvas → Screen
screen_by options part terminal = record {
  query = record {
    sort = options.sort;
    rising = false;
    rows = rows_by options.rows;
    filter = part;
    typed = nothing;
    resources = options.resources;
    by_place = options.by_place;
    recent = false;
  };
  lints = options.lints;
  canvas = if options.plain then Plain else terminal;
}

-- a stream is read and drawn as screens while it comes, and the status tells the outcome. The text of the filter is this one
pub record WatchesStream (options : WatchOptions) (text : List ℕ) (terminal : Canvas) (given left old new : Option (List ℕ))
    (status : ℕ) : Type 0 where
  pub outcome : Result (Unit {0}) AppFault
  pub told : status ≡ status_of outcome
  pub part : Bor (List ℕ)
  pub is_text : part.now ≡ text
  pub watches : Watches (screen_by options part terminal) given left outcome old new None None

-- some stream is watched by whoever presses the terminal's keys, of both of which nothing is known, and the status tells the outcome
pub record WatchesAtKeys (options : WatchOptions) (text : List ℕ) (terminal : Canvas) (old new : Option (List ℕ))
    (status : ℕ) : Type 0 where
  pub outcome : Result (Unit {0}) AppFault
  pub told : status ≡ status_of outcome
  pub part : Bor (List ℕ)
  pub is_text : part.now ≡ text
  pub given : Option (List Coming)
  pub left : Option (List Coming)
  pub watches : WatchesKeys (screen_by options part terminal) given left outcome old new

-- a stream is watched, at keys or without
abbrev pub WatchesBy : Bool → WatchOptions → List ℕ → Canvas → Option (List ℕ) → Option (List ℕ) → Option (List ℕ) → Option (List ℕ) → ℕ
    → Type 0
WatchesBy true options text terminal given left old new status = WatchesAtKeys options text terminal old new status
WatchesBy false options text terminal given left old new status = WatchesStream options text terminal given left old new status

-- a stream is read and its numbers are written, and the status tells the outcome
pub record MeasuresStream (options : MetricsOptions) (given left old new : Option (List ℕ)) (status : ℕ) : Type 0 where
  pub outcome : Result (Unit {0}) AppFault
  pub told : status ≡ status_of outcome
  pub measures : Measures options.apart options.lints given left outcome old new
  -- only a writer's fault comes once something was written
  pub unwritten : IfErr outcome (λ fault. (IsOfWriter fault → ⊥) → new ≡ old)

-- a stream is read, its numbers are kept under a path while it comes, and the status is that of the outcome. It speaks of the texts of a
-- place before and after
pub record KeepsStream (options : MetricsOptions) (path : List ℕ) (given left : Option (List ℕ)) (before after : Option Texts)
    (status : ℕ) : Type 0 where
  pub outcome : Result (Unit {0}) AppFault
  pub told : status ≡ status_of outcome
  pub keeps : Keeps path options.apart options.lints given left outcome before after

-- numbers are written, or kept under a path where one is given, and then nothing is written
abbrev pub MeasuresTo : Option (List ℕ) → MetricsOptions → Option (List ℕ) → Option (List ℕ) → Option (List ℕ) → Option (List ℕ)
    → Option Texts → Option Texts → ℕ → Type 0
MeasuresTo None options given left old new before after status = MeasuresStream options given left old new status
MeasuresTo (Some path) options given left old new before after status =
    KeepsStream options path given left before after status × (new ≡ old)

-- what changed between two streams is written, and the status tells the outcome: 3 where something got worse
pub record ComparesRecorded (margin : Margin) (before after : Recorded) (old new : Option (List ℕ)) (status : ℕ) : Type 0 where
  pub outcome : Result ℕ AppFault
  pub told : status ≡ found_status Lint outcome
  pub compares : Compares margin before after outcome old new
  -- only a writer's fault comes once something was written
  pub unwritten : IfErr outcome (λ fault. (IsOfWriter fault → ⊥) → new ≡ old)

-- the title of a page of two streams, and the path of the earlier one
abbrev pub Titles : Type 0
Titles = List ℕ × List ℕ

-- it is drawn as a page with these
pub record PagesRecorded (titles : Titles) (margin : Margin) (before after : Recorded) (old new : Option (List ℕ))
    (status : ℕ) : Type 0 where
  pub outcome : Result ℕ AppFault
  pub told : status ≡ page_status outcome
  pub pages : PagesChanges titles.0 titles.1 margin before after outcome old new
  -- only a writer's fault comes once something was written
  pub unwritten : IfErr outcome (λ fault. (IsOfWriter fault → ⊥) → new ≡ old)

-- what changed is shown: as a text, or as a page with these titles
abbrev pub ShowsRecorded : Option Titles → Margin → Recorded → Recorded → Option (List ℕ) → Option (List ℕ) → ℕ → Type 0
ShowsRecorded None margin before after old new status = ComparesRecorded margin before after old new status
ShowsRecorded (Some titles) margin before after old new status = PagesRecorded titles margin before after old new status

-- the same of what the later stream came to, which may be a fault
abbrev pub ComparesAfter : Option Titles → Margin → Recorded → Result Recorded AppFault → Option (List ℕ) → Option (List ℕ) → ℕ → Type 0
ComparesAfter page margin before (Ok after) old new status = ShowsRecorded page margin before after old new status
ComparesAfter page margin before (Err fault) old new status = (status ≡ 1) × (new ≡ old)

-- the later stream is read to its end and compared with an earlier one
pub record ReadsAfter (page : Option Titles) (options : CompareOptions) (before : Recorded) (given left old new : Option (List ℕ))
    (status : ℕ) : Type 0 where
  pub after : Result Recorded AppFault
  pub reads : Records options.limits given left after
  pub compares : ComparesAfter page options.margin before after old new status

-- the same of what the earlier stream came to. After a fault of it the later one is not read
abbrev pub ComparesBefore : Option Titles → CompareOptions → Result Recorded AppFault → Option (List ℕ) → Option (List ℕ) → Option (List ℕ)
    → Option (List ℕ) → ℕ → Type 0
ComparesBefore page options (Ok before) given left old new status = ReadsAfter page options before given left old new status
ComparesBefore page options (Err fault) given left old new status = (status ≡ 1) × ((left ≡ given) × (new ≡ old))

-- the earlier stream of these bytes is read to its end, and then the later one, and what changed is shown
pub record ComparesStreams (page : Option Titles) (options : CompareOptions) (earlier given left old new : Option (List ℕ))
    (status : ℕ) : Type 0 where
  pub before : Result Recorded AppFault
  pub rest : Option (List ℕ)
  pub reads : Records options.limits earlier rest before
  pub compares : ComparesBefore page options before given left old new status

-- the earlier stream is that of a file. It is said which readers have its bytes, and what a reader has left. Or it could not be opened, and
-- nothing was done
abbrev pub ComparesWith : {F : Type 0} → (F → Option (List ℕ)) → (F → Type 0) → Option Titles → CompareOptions → Option (List ℕ)
    → Option (List ℕ) → Option (List ℕ) → Option (List ℕ) → ℕ → Type 0
ComparesWith {F} remaining is_before page options given left old new status =
    ((file : F) × (is_before file × ComparesStreams page options (remaining file) given left old new status))
    ⊎ ((status ≡ 1) × ((left ≡ given) × (new ≡ old)))

-- the demo is shown, nothing is read, and the status tells the outcome
pub record ShowsDemo (given left old new : Option (List ℕ)) (status : ℕ) : Type 0 where
  pub outcome : Result (Unit {0}) AppFault
  pub told : status ≡ status_of outcome
  pub shows : Demonstrates outcome old new
  pub unread : left ≡ given

-- every name has the text of a filter that is not there
abbrev pub filter_text : Option (List ℕ) → List ℕ
filter_text filter = unwrap_or filter []

-- what else a call says: a page's title, the path of the earlier stream, and the moment from which on a stream is viewed
abbrev pub Beside : Type 0
Beside = Titles × Option ℕ

-- what is asked for is done. A watch has this filter and terminal, numbers have this path, and a page has these titles. Findings and places
-- are those since this moment. A comparison has this earlier stream, and so have places since a moment. It is said of the reader's bytes
-- before and after, of the output's, of a place's texts, and of the status
abbrev pub Does : {F : Type 0} → (F → Option (List ℕ)) → (F → Type 0) → Canvas → Option (List ℕ) → Option (List ℕ) → Beside → Request
    → Option (List ℕ) → Option (List ℕ) → Option (List ℕ) → Option (List ℕ) → Option Texts → Option Texts → ℕ → Type 0
Does remaining is_before terminal filter to beside Run given left old new before after status = RunsScript given old new status
Does remaining is_before terminal filter to beside (Show view lints times) given left old new before after status =
    ViewsStream view lints times given left old new status
Does remaining is_before terminal filter to beside (Find view limits times) given left old new before after status =
    FindsInStream view limits beside.1 times given left old new status
Does remaining is_before terminal filter to beside (Sites view lints wait_ms times) given left old new before after status =
    AddsUpSince remaining is_before beside.1 view lints wait_ms times given left old new status
Does remaining is_before terminal filter to beside (Page limits) given left old new before after status =
    PagesStream beside.0.0 limits given left old new status
Does remaining is_before terminal filter to beside (Watch options) given left old new before after status =
    WatchesBy options.keys options (filter_text filter) terminal given left old new status
Does remaining is_before terminal filter to beside (Metrics options) given left old new before after status =
    MeasuresTo to options given left old new before after status
Does remaining is_before terminal filter to beside (Compare options) given left old new before after status =
    ComparesWith remaining is_before None options given left old new status
Does remaining is_before terminal filter to beside (PageChanges options) given left old new before after status =
    ComparesWith remaining is_before (Some beside.0) options given left old new status
Does remaining is_before terminal filter to beside Demo given left old new before after status = ShowsDemo given left old new status

-- the same of what the bytes say up to a moment, if one is given. How many of them are left is then not said
abbrev pub DoesUntil : {F : Type 0} → Option ℕ → (F → Option (List ℕ)) → (F → Type 0) → Canvas → Option (List ℕ) → Option (List ℕ) → Beside
    → Request → Option (List ℕ) → Option (List ℕ) → Option (List ℕ) → Option (List ℕ) → Option Texts → Option Texts → ℕ → Type 0
DoesUntil None remaining is_before terminal filter to beside request given left old new before after status =
    Does remaining is_before terminal filter to beside request given left old new before after status
DoesUntil (Some moment) remaining is_before terminal filter to beside request given left old new before after status =
    (rest : Option (List ℕ)) × Does remaining is_before terminal filter to beside request (option_map (front (Some moment)) given) rest old
    new before after status

-- the moment up to which an input is read, as words name it. One before the end of an input is not asked for
abbrev pub moment_at : Option Moment → Option ℕ
moment_at None = None
moment_at (Some (At moment)) = Some moment
moment_at (Some (BeforeEnd span)) = None

-- a moment is so long before the end of a file. It is said which readers have the file's bytes, and what a reader has left
abbrev pub IsBeforeEnd : {F : Type 0} → (F → Option (List ℕ)) → (F → Type 0) → ℕ → ℕ → Type 0
IsBeforeEnd {F} remaining is_of span moment =
    (file : F) × (is_of file × ((end : ℕ) × (EndsAt (remaining file) end × (moment ≡ moment_before end span))))

-- the moment up to which a file is read, as words name it
abbrev pub IsMoment : {F : Type 0} → (F → Option (List ℕ)) → (F → Type 0) → Option Moment → Option ℕ → Type 0
IsMoment remaining is_of (Some (BeforeEnd span)) (Some moment) = IsBeforeEnd remaining is_of span moment
IsMoment remaining is_of (Some (BeforeEnd span)) None = ⊥
IsMoment remaining is_of until moment = moment ≡ moment_at until

-- what is asked for is done with the bytes of a file, up to the moment and since the moment that words name. Or the file could not be
-- opened, or its end could not be found, and nothing was done
abbrev pub DoesOfFile : {F : Type 0} → Option Moment → Option Moment → (F → Option (List ℕ)) → (F → Type 0) → (F → Type 0) → Canvas
    → Option (List ℕ) → Option (List ℕ) → Titles → Request → Option (List ℕ) → Option (List ℕ) → Option Texts → Option Texts → ℕ → Type 0
DoesOfFile {F} until since remaining is_of is_before terminal filter to titles request old new before after status =
    ((end : Option ℕ) × (IsMoment remaining is_of until end
    × ((begin : Option ℕ) × (IsMoment remaining is_of since begin × ((file : F) × (is_of file
    × ((left : Option (List ℕ)) × DoesUntil end remaining is_before terminal filter to (titles, begin) request (remaining file) left old new
    before after status)))))))
    ⊎ ((status ≡ 1) × ((new ≡ old) × (after ≡ before)))
