-- The text of a stream's numbers: a function of its tables, of what has left them, of who holds up whom, and of how many lines it has.
use Rattle.std.specs.Prelude.{ℕ, List, [], ◌++◌, map, filter, length, codes, Bool, true, false}
use Rattle.std.specs.Option.{option_map_or}
use Rattle.tk_ids.specs.declared.info.Dropped.{Dropped}
use Rattle.tk_report.specs.declared.version.TheConstants.{VERSION}
use Rattle.tk_stream.specs.Tables.{TablesView}
use Rattle.tk_client.specs.declared.warning.Warning.{Warning}
use Rattle.tk_client.specs.declared.warning.WarningKind.{WarningKind}
use Rattle.tk_client.specs.declared.warning.WarningKind.TheVariants.{SelfWakes, LostWaker, NeverYielded}
use Rattle.tk_client.specs.Warnings.{LintsView, warnings_in}
use Rattle.tk_metrics.specs.Blame.{Blame, blame_families}
use Rattle.tk_metrics.specs.declared.by.By.{By}
use Rattle.tk_metrics.specs.declared.family.Family.{Family}
use Rattle.tk_metrics.specs.declared.family.Family.TheVariants as families
use Rattle.tk_metrics.specs.declared.family.Count.{Count}
use Rattle.tk_metrics.specs.declared.family.Count.TheVariants.{Polls, Busy, Scheduled, Wakes, SelfWakes as OwnWakes, WakerClones, WakerDrops, OpenPoll, OpenWait, Waiting}
use Rattle.tk_metrics.specs.declared.sums.PollOps.{PollOps}
use Rattle.tk_metrics.specs.declared.sums.Sums.{Sums}
use Rattle.tk_metrics.specs.Samples.{family, head_of, label, sample, with_label}
use Rattle.tk_series.specs.Series.{series_of}
use Rattle.tk_metrics.specs.Entries.{task_entry}
use Rattle.tk_metrics.specs.Keys.{endless, others_in}
use Rattle.tk_metrics.specs.declared.keys.Keys.{Keys}
use Rattle.tk_metrics.specs.Sums.{both_ops, plus, resource_entry}

-- what has left the tables: tasks by their name and kind, and resources by their type, each with what it had come to
pub record Gone : Type 0 where
  pub tasks : List (List ℕ × Sums)
  pub resources : List (List ℕ × PollOps)

-- ---- tasks

-- one of the numbers of tasks
abbrev pub count_of : Count → Sums → ℕ
count_of Polls s = s.polls
count_of Busy s = s.busy
count_of Scheduled s = s.sched
count_of Wakes s = s.wakes
count_of OwnWakes s = s.own
count_of WakerClones s = s.clones
count_of WakerDrops s = s.drops
count_of OpenPoll s = s.open_poll
count_of OpenWait s = s.open_wait
count_of Waiting s = s.waiting

-- a family of such numbers
abbrev pub count_family : Count → List (List ℕ × Sums) → List ℕ
count_family count tasks = family (families.Task count) (λ s. sample (families.Task count) (s.0, count_of count s.1)) tasks

-- how many tasks of some labels are in a state
abbrev pub state_sample : List ℕ → List ℕ → ℕ → List ℕ
state_sample labels state n = sample families.Tasks (with_label labels (codes "state") state, n)

-- how many are in each state
abbrev pub state_samples : List ℕ × Sums → List ℕ
state_samples s =
    state_sample s.0 (codes "idle") s.1.idle
    ++ (state_sample s.0 (codes "scheduled") s.1.scheduled
    ++ (state_sample s.0 (codes "polling") s.1.polling
    ++ state_sample s.0 (codes "closed") s.1.closed))

-- the families of tasks
abbrev pub task_families : List (List ℕ × Sums) → List ℕ
task_families tasks =
    count_family Polls tasks
    ++ (count_family Busy tasks
    ++ (count_family Scheduled tasks
    ++ (count_family Wakes tasks
    ++ (count_family OwnWakes tasks
    ++ (count_family WakerClones tasks
    ++ (count_family WakerDrops tasks
    ++ (family families.Tasks state_samples tasks
    ++ (count_family OpenPoll tasks
    ++ (count_family OpenWait tasks
    ++ count_family Waiting tasks)))))))))

-- ---- resources

-- how many poll operations of some labels gave this answer
abbrev pub answer_sample : List ℕ → List ℕ → ℕ → List ℕ
answer_sample labels answer n = sample families.PollOps (with_label labels (codes "readiness") answer, n)

abbrev pub answer_samples : List ℕ × PollOps → List ℕ
answer_samples s = answer_sample s.0 (codes "ready") s.1.ready ++ answer_sample s.0 (codes "pending") s.1.pending

-- ---- warnings, events and lines

-- a sample whose one label is its kind
abbrev pub kind_sample : Family → List ℕ → ℕ → List ℕ
kind_sample f kind n = sample f (label (codes "kind") kind, n)

-- whether two kinds of warnings are the same
abbrev pub is_kind : WarningKind → WarningKind → Bool
is_kind SelfWakes SelfWakes = true
is_kind LostWaker LostWaker = true
is_kind NeverYielded NeverYielded = true
is_kind _ _ = false

-- how many warnings are of a kind
abbrev pub warnings_of_kind : WarningKind → List Warning → ℕ
warnings_of_kind kind warnings = length (filter (λ w. is_kind kind w.kind) warnings)

abbrev pub warning_family : List Warning → List ℕ
warning_family warnings =
    head_of families.Warnings
    ++ (kind_sample families.Warnings (codes "self-wakes") (warnings_of_kind SelfWakes warnings)
    ++ (kind_sample families.Warnings (codes "lost-waker") (warnings_of_kind LostWaker warnings)
    ++ kind_sample families.Warnings (codes "never-yielded") (warnings_of_kind NeverYielded warnings)))

abbrev pub dropped_family : Dropped → List ℕ
dropped_family dropped =
    head_of families.Dropped
    ++ (kind_sample families.Dropped (codes "task") dropped.tasks
    ++ (kind_sample families.Dropped (codes "resource") dropped.resources
    ++ kind_sample families.Dropped (codes "op") dropped.ops))

abbrev pub line_family : ℕ → List ℕ
line_family lines = head_of families.Lines ++ sample families.Lines ([], lines)

-- the moment of the last line
abbrev pub moment_family : ℕ → List ℕ
moment_family now = head_of families.Moment ++ sample families.Moment ([], now)

-- a sample of 1 with the version of the program that made the numbers
abbrev pub version_sample : List ℕ
version_sample = sample families.Build (label (codes "version") VERSION.now, 1)

abbrev pub build_family : List ℕ
build_family = head_of families.Build ++ version_sample

-- ---- the text

-- the families of tables, of what has left them, of lines and the moment of the last one, and of the program, one after the other
abbrev pub text_of : List (List ℕ × Sums) → List (List ℕ × PollOps) → List Warning → Dropped → ℕ → ℕ → List ℕ
text_of tasks resources warnings dropped lines now =
    task_families tasks
    ++ (family families.PollOps answer_samples resources
    ++ (warning_family warnings
    ++ (dropped_family dropped
    ++ (line_family lines
    ++ (moment_family now
    ++ build_family)))))

-- the series of tasks: those that have left, and those of the tables
abbrev pub task_series : Keys → TablesView → Gone → List (List ℕ × Sums)
task_series by tables gone = series_of plus (gone.tasks ++ map (task_entry by tables.now) tables.tasks)

-- the series of resources
abbrev pub resource_series : TablesView → Gone → List (List ℕ × PollOps)
resource_series tables gone = series_of both_ops (gone.resources ++ map (resource_entry tables.counts) tables.resources)

-- how many tasks came whose labels don't stand by themselves, where labels have an end
abbrev pub others_family : Keys → List ℕ
others_family by = option_map_or (λ names. head_of families.Others ++ sample families.Others ([], others_in names)) by.names []

-- the numbers of tables with these warnings, then of labels without an own series, who holds up whom, further families, and the end
abbrev pub metrics_with : Keys → TablesView → List Warning → Gone → Blame → ℕ → List ℕ → List ℕ
metrics_with by tables warnings gone blame lines more =
    text_of (task_series by tables gone) (resource_series tables gone) warnings tables.dropped lines tables.now ++ (others_family by ++ (blame_families by.by blame ++ (more ++ codes "# EOF\n")))

-- the numbers of tables, of what has left them, of who holds up whom, and of so many lines, without histograms
abbrev pub metrics_text : By → LintsView → TablesView → Gone → Blame → ℕ → List ℕ
metrics_text by lints tables gone blame lines = metrics_with (endless by) tables (warnings_in lints tables) gone blame lines []
