-- What was done where nothing could be.
use Rattle.std.proofs.Common.{◌≡◌, [], List, ℕ, Bool, true, false, cond, Option, Some, None, Err, sym, subst, refl, inr}
use Rattle.std.specs.Option.{option_map}
use Rattle.std.specs.Borrow.{Bor}
use Rattle.std.specs.Io.KnownBytes.{Appends}
use Rattle.std.proofs.lemmas.List.{append-nil}
use Rattle.tk_client.specs.Warnings.{LintsView}
use Rattle.tk_fault.specs.declared.fault.AppFault.TheVariants as faults
use Rattle.tk_sites.specs.declared.sites_view.SitesView.{SitesView}
use Rattle.tk_screen.specs.declared.canvas.Canvas.{Canvas}
use Rattle.tk_metrics.specs.Places.{Texts}
use Rattle.tk_metrics.proofs.KeepLemmas.{none_put}
use Rattle.tk_until.specs.Front.{front}
use Rattle.tk_watch.proofs.KeyLemmas.{none_came}
use Rattle.tk_watch.proofs.WatchLemmas.{none_drawn}
use Rattle.taskscope.proofs.WordLemmas.{some_is}
use Rattle.taskscope.specs.Program.{AddsUpSince, Beside, Does, DoesUntil, MeasuresTo, WatchesAtKeys, WatchesBy, filter_text, screen_by}
use Rattle.taskscope.specs.Requests.{at_keys}
use Rattle.taskscope.specs.declared.command_line.MetricsOptions.{MetricsOptions}
use Rattle.taskscope.specs.declared.command_line.Request.{Request}
use Rattle.taskscope.specs.declared.command_line.WatchOptions.{WatchOptions}
use Rattle.taskscope.specs.declared.command_line.Request.TheVariants.{Compare, Demo, Find, Metrics, Page, PageChanges, Run, Show, Sites, Watch}

-- nothing was written
nothing_more : (known : Option (List ℕ)) → Appends known known []
nothing_more None = tt
nothing_more (Some xs) = sym (append-nil xs)

none_measured : (to : Option (List ℕ)) (options : MetricsOptions) (given known : Option (List ℕ)) (texts : Option Texts) (status : ℕ) → status ≡ 1
    → MeasuresTo to options given given known known texts texts status
none_measured None options given known texts status told = record {
  outcome = Err faults.Memory;
  told = told;
  measures = tt;
  unwritten = λ other. refl;
}
none_measured (Some path) options given known texts status told = (
  record {
    outcome = Err faults.Memory;
    told = told;
    keeps = none_put path options.apart options.lints given texts;
  },
  refl,
)

abbrev some_text : List ℕ → Bor (List ℕ)
some_text text = record { ref_ptr = (0, 0); now = text }

-- nothing came of keys and of a stream
pub none_heard : (options : WatchOptions) (text : List ℕ) (terminal : Canvas) (known : Option (List ℕ)) (status : ℕ) → status ≡ 1
    → WatchesAtKeys options text terminal known known status
none_heard options text terminal known status told = record {
  outcome = Err faults.Memory;
  told = told;
  part = some_text text;
  is_text = refl;
  given = None;
  left = None;
  watches = none_came (screen_by options (some_text text) terminal) None known;
}

none_watched : (keys : Bool) (options : WatchOptions) (text : List ℕ) (terminal : Canvas) (given known : Option (List ℕ)) (status : ℕ) → status ≡ 1
    → WatchesBy keys options text terminal given given known known status
none_watched true options text terminal given known status told = none_heard options text terminal known status told
none_watched false options text terminal given known status told = record {
  outcome = Err faults.Memory;
  told = told;
  part = some_text text;
  is_text = refl;
  watches = none_drawn (screen_by options (some_text text) terminal) given known;
}

none_added : {F : Type 0} (remaining : F → Option (List ℕ)) (is_before : F → Type 0) (since : Option ℕ) (view : SitesView) (lints : LintsView) (wait_ms : Option ℕ) (times : Bool) (given known : Option (List ℕ)) (status : ℕ) → status ≡ 1
    → AddsUpSince remaining is_before since view lints wait_ms times given given known known status
none_added remaining is_before None view lints wait_ms times given known status told = record {
  outcome = Err faults.Memory;
  told = told;
  views = tt;
  unwritten = λ other. refl;
}
none_added remaining is_before (Some since) view lints wait_ms times given known status told = inr (told, (refl, refl))

-- without memory nothing is read or written, whatever is asked for
pub nothing_done : {F : Type 0} (remaining : F → Option (List ℕ)) (is_before : F → Type 0) (terminal : Canvas) (filter to : Option (List ℕ)) (beside : Beside) (request : Request) (given known : Option (List ℕ)) (texts : Option Texts) (status : ℕ) → status ≡ 1
    → Does remaining is_before terminal filter to beside request given given known known texts texts status
nothing_done remaining is_before terminal filter to beside Run given known texts status told = record {
  outcome = Err faults.Memory;
  told = told;
  written = [];
  runs = refl;
  appends = nothing_more known;
}
nothing_done remaining is_before terminal filter to beside (Show shown lints times) given known texts status told = record {
  outcome = Err faults.Memory;
  told = told;
  views = tt;
  plain = λ none. tt;
  unwritten = λ other. refl;
}
nothing_done remaining is_before terminal filter to beside (Find view limits times) given known texts status told = record {
  outcome = Err faults.Memory;
  told = told;
  views = tt;
  unwritten = λ other. refl;
}
nothing_done remaining is_before terminal filter to beside (Sites view lints wait_ms times) given known texts status told =
    none_added remaining is_before beside.1 view lints wait_ms times given known status told
nothing_done remaining is_before terminal filter to beside (Page limits) given known texts status told = record {
  outcome = Err faults.Memory;
  told = told;
  pages = tt;
  unwritten = λ other. refl;
}
nothing_done remaining is_before terminal filter to beside (Watch options) given known texts status told = none_watched options.keys options (filter_text filter) terminal given known status told
nothing_done remaining is_before terminal filter to beside (Metrics options) given known texts status told = none_measured to options given known texts status told
nothing_done remaining is_before terminal filter to beside (Compare options) given known texts status told = inr (told, (refl, refl))
nothing_done remaining is_before terminal filter to beside (PageChanges options) given known texts status told = inr (told, (refl, refl))
nothing_done remaining is_before terminal filter to beside Demo given known texts status told = record {
  outcome = Err faults.Memory;
  told = told;
  shows = refl;
  unread = refl;
}

-- nor of what is said up to a moment
pub nothing_done_until : {F : Type 0} (until : Option ℕ) (remaining : F → Option (List ℕ)) (is_before : F → Type 0) (terminal : Canvas) (filter to : Option (List ℕ)) (beside : Beside) (request : Request) (given known : Option (List ℕ)) (texts : Option Texts) (status : ℕ) → status ≡ 1
    → DoesUntil until remaining is_before terminal filter to beside request given given known known texts texts status
nothing_done_until None remaining is_before terminal filter to beside request given known texts status told =
    nothing_done remaining is_before terminal filter to beside request given known texts status told
nothing_done_until (Some moment) remaining is_before terminal filter to beside request given known texts status told =
    (option_map (front (Some moment)) given, nothing_done remaining is_before terminal filter to beside request (option_map (front (Some moment)) given) known texts status told)

-- a watch at keys is what is asked for
heard : {F : Type 0} (remaining : F → Option (List ℕ)) (is_before : F → Type 0) (terminal : Canvas) (filter to : Option (List ℕ)) (beside : Beside) (request : Request) (options : WatchOptions) (given left old new : Option (List ℕ)) (texts : Option Texts) (status : ℕ)
    → at_keys request ≡ Some options → WatchesAtKeys options (filter_text filter) terminal old new status
    → Does remaining is_before terminal filter to beside request given left old new texts texts status
heard remaining is_before terminal filter to beside Run options given left old new texts status is watches = absurd (cc)
heard remaining is_before terminal filter to beside (Show shown lints times) options given left old new texts status is watches = absurd (cc)
heard remaining is_before terminal filter to beside (Find view limits times) options given left old new texts status is watches = absurd (cc)
heard remaining is_before terminal filter to beside (Sites view lints wait_ms times) options given left old new texts status is watches = absurd (cc)
heard remaining is_before terminal filter to beside (Page limits) options given left old new texts status is watches = absurd (cc)
heard remaining is_before terminal filter to beside (Metrics of) options given left old new texts status is watches = absurd (cc)
heard remaining is_before terminal filter to beside (Compare of) options given left old new texts status is watches = absurd (cc)
heard remaining is_before terminal filter to beside (PageChanges of) options given left old new texts status is watches = absurd (cc)
heard remaining is_before terminal filter to beside Demo options given left old new texts status is watches = absurd (cc)
heard remaining is_before terminal filter to beside (Watch own) options given left old new texts status is watches = by own.keys is
  where
    by : (keys : Bool) → cond keys (Some own) None ≡ Some options → WatchesBy keys own (filter_text filter) terminal given left old new status
    by true same = subst (λ (w : WatchOptions). WatchesAtKeys w (filter_text filter) terminal old new status) (sym (some_is own options same)) watches
    by false same = absurd (cc)

-- whatever moment is given: a watch has none
pub heard_until : {F : Type 0} (until : Option ℕ) (remaining : F → Option (List ℕ)) (is_before : F → Type 0) (terminal : Canvas) (filter to : Option (List ℕ)) (beside : Beside) (request : Request) (options : WatchOptions) (given left old new : Option (List ℕ)) (texts : Option Texts) (status : ℕ)
    → at_keys request ≡ Some options → WatchesAtKeys options (filter_text filter) terminal old new status
    → DoesUntil until remaining is_before terminal filter to beside request given left old new texts texts status
heard_until None remaining is_before terminal filter to beside request options given left old new texts status is watches =
    heard remaining is_before terminal filter to beside request options given left old new texts status is watches
heard_until (Some moment) remaining is_before terminal filter to beside request options given left old new texts status is watches =
    (left, heard remaining is_before terminal filter to beside request options (option_map (front (Some moment)) given) left old new texts status is watches)
