-- Where nothing is shown of poll times and waits, a view writes what it writes of the tables alone.
use Rattle.std.proofs.Common.{◌≡◌, ℕ, List, [], ◌∷◌, ◌++◌, length, Option, Some, None, IsSome, is_some, cond, Result, Ok, Err, refl, ap, ap₂, sym, ◌∙◌, append-nil, subst, false}
use Rattle.std.specs.Prelude.{flat_map, map}
use Rattle.std.specs.Io.KnownBytes.{Appends}
use Rattle.std.proofs.lemmas.Bool.{false≢true}
use Rattle.std.proofs.lemmas.List.{length-map}
use Rattle.tk_stream.specs.declared.tables.task.Task.{Task}
use Rattle.tk_stream.specs.Sent.{IsCut}
use Rattle.tk_stream.specs.Tables.{TablesView}
use Rattle.tk_stream.specs.Times.{TaskTimes}
use Rattle.tk_client.specs.declared.warning.Warning.{Warning}
use Rattle.tk_client.specs.declared.any_warnings.AnyWarning.{AnyWarning}
use Rattle.tk_client.specs.declared.any_warnings.AnyWarning.TheVariants.{Usual}
use Rattle.tk_client.specs.declared.any_warnings.TimeLimits.{TimeLimits}
use Rattle.tk_client.specs.AnyWarnings.{all_warnings_in, no_limits}
use Rattle.tk_client.specs.Meaning.{Start}
use Rattle.tk_client.specs.Warnings.{LintsView, warnings_in}
use Rattle.tk_client.proofs.AnyWarningLemmas.{usual_alone}
use Rattle.tk_fault.specs.declared.fault.AppFault.{AppFault}
use Rattle.tk_fault.specs.declared.fault.AppFault.TheVariants as faults
use Rattle.tk_reading.specs.Outcomes.{LeadTo}
use Rattle.tk_reading.specs.Shown.{shown_of}
use Rattle.tk_report.specs.declared.options.TimesOptions.{TimesOptions}
use Rattle.tk_report.specs.declared.view.View.{View}
use Rattle.tk_report.specs.declared.view.View.TheVariants.{Report, Lint}
use Rattle.tk_report.specs.declared.view.Viewed.{Viewed}
use Rattle.tk_report.specs.Known.{completed, longest_known}
use Rattle.tk_report.specs.Report.{heading, op_lines, report_of, resource_lines, task_line, warn_line, warn_lines}
use Rattle.tk_report.specs.Timed.{any_warn_lines, no_times, task_lines, timed_report_with, timed_text_of, times_by, warned_of}
use Rattle.tk_report.specs.TimedViews.{LeadToStart, ViewsTimed, count_of}
use Rattle.tk_report.specs.Views.{Views, text_of}

-- where neither long polls nor long waits are asked for, all warnings are the usual ones
pub usual_warned : (lints : LintsView) (options : TimesOptions) (shown : List TablesView) (tables : TablesView) (times : List TaskTimes) → options.limits ≡ no_limits
    → map Usual (warnings_in lints tables) ≡ warned_of lints options shown tables times
usual_warned lints options shown tables times is =
    sym (ap (λ (limits : TimeLimits). all_warnings_in lints limits tables (times_by limits shown tables times)) is ∙ usual_alone lints tables times)

-- where no long polls are asked for, they go by nothing but the histograms
pub timed_warned : (lints : LintsView) (limits : TimeLimits) (shown : List TablesView) (tables : TablesView) (times : List TaskTimes) → limits.poll_ms ≡ None
    → all_warnings_in lints limits tables times ≡ all_warnings_in lints limits tables (times_by limits shown tables times)
timed_warned lints limits shown tables times none =
    ap (λ (o : Option ℕ). all_warnings_in lints limits tables (cond (is_some o) (completed (longest_known shown) tables.tasks times) times)) (sym none)

-- where they are, they go by what lines show, too
pub polls_warned : (lints : LintsView) (limits : TimeLimits) (shown : List TablesView) (tables : TablesView) (times : List TaskTimes) → IsSome limits.poll_ms
    → all_warnings_in lints limits tables (completed (longest_known shown) tables.tasks times) ≡ all_warnings_in lints limits tables (times_by limits shown tables times)
polls_warned lints limits shown tables times some = by limits.poll_ms some
  where
    by : (o : Option ℕ) → IsSome o → all_warnings_in lints limits tables (completed (longest_known shown) tables.tasks times)
        ≡ all_warnings_in lints limits tables (cond (is_some o) (completed (longest_known shown) tables.tasks times) times)
    by None h = absurd (false≢true h)
    by (Some n) h = refl

plain_tasks : (times : List TaskTimes) (tasks : List Task) → flat_map (task_lines false times) tasks ≡ flat_map task_line tasks
plain_tasks times [] = refl
plain_tasks times (t ∷ ts) = ap₂ (λ xs ys. xs ++ ys) (append-nil (task_line t)) (plain_tasks times ts)

usual_lines : (tables : TablesView) (warnings : List Warning) → any_warn_lines tables (map Usual warnings) ≡ warn_lines tables warnings
usual_lines tables [] = refl
usual_lines tables (w ∷ ws) = ap (λ xs. warn_line tables w ++ xs) (usual_lines tables ws)

plain_lint : (lints : LintsView) (shown : List TablesView) (tables : TablesView) (times : List TaskTimes) → any_warn_lines tables (warned_of lints no_times shown tables times) ≡ warn_lines tables (warnings_in lints tables)
plain_lint lints shown tables times = ap (any_warn_lines tables) (usual_alone lints tables times) ∙ usual_lines tables (warnings_in lints tables)

plain_text : (view : View) (lints : LintsView) (shown : List TablesView) (tables : TablesView) (times : List TaskTimes) → timed_text_of view lints no_times shown tables times ≡ text_of view lints tables
plain_text Report lints shown tables times =
    ap₂ (λ xs ys. heading tables ++ (xs ++ (flat_map (resource_lines tables.counts) tables.resources ++ (flat_map op_lines tables.ops ++ ys))))
    (plain_tasks times tables.tasks) (plain_lint lints shown tables times)
plain_text Lint lints shown tables times = plain_lint lints shown tables times

-- the report of tables, where all their warnings are told and no histogram is shown
pub plain_report : (lints : LintsView) (tables : TablesView) (times : List TaskTimes) (warnings : List AnyWarning) → warnings ≡ all_warnings_in lints no_limits tables times
    → timed_report_with false tables times warnings ≡ report_of lints tables
plain_report lints tables times warnings are = ap (timed_report_with false tables times) are ∙ plain_text Report lints [] tables times

plain_count : (lints : LintsView) (shown : List TablesView) (tables : TablesView) (times : List TaskTimes) → length (warned_of lints no_times shown tables times) ≡ length (warnings_in lints tables)
plain_count lints shown tables times = ap length (usual_alone lints tables times) ∙ length-map (warnings_in lints tables) Usual

leads_to : (given : Option (List ℕ)) (start : Start) → LeadToStart given start → LeadTo given start.tables
leads_to given start lead = record {
  bytes = lead.bytes;
  all = lead.all;
  start = start;
  lines = lead.lines;
  come = lead.come;
  shows = refl;
}

pub plain_views : (view : View) (lints : LintsView) (given left old new : Option (List ℕ)) (result : Result Viewed AppFault) → ViewsTimed view lints no_times given left result old new
    → Views view lints given left (count_of result) old new
plain_views view lints given left old new (Ok viewed) v = record {
  tables = v.start.tables;
  lead = leads_to given v.start v.lead;
  wrote = subst (Appends old new) (plain_text view lints (shown_of v.lead.bytes) v.start.tables v.start.times) v.wrote;
  counted = v.counted ∙ plain_count lints (shown_of v.lead.bytes) v.start.tables v.start.times;
}
plain_views view lints given left old new (Err faults.Write) v = record {
  tables = v.start.tables;
  lead = leads_to given v.start v.lead;
  front = v.front;
  cut = subst (λ t. IsCut t v.front) (plain_text view lints (shown_of v.lead.bytes) v.start.tables v.start.times) v.cut;
  wrote = v.wrote;
}
plain_views view lints given left old new (Err (faults.Stream lines fault)) v = v
plain_views view lints given left old new (Err faults.Memory) v = v
plain_views view lints given left old new (Err faults.Read) v = v
plain_views view lints given left old new (Err (faults.Script line name)) v = v
