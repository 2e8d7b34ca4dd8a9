-- Who holds up whom: the families that tell what is odd about a stream's tasks.
use Rattle.std.specs.Prelude.{ℕ, ◌+◌, max, List, [], ◌∷◌, ◌++◌, map, codes, Option, Some, None}
use Rattle.tk_core.specs.Lists.{capped}
use Rattle.tk_ids.specs.Ids.{id_text}
use Rattle.tk_odd.specs.Diagnosis.{standing_of}
use Rattle.tk_odd.specs.Findings.{Placed, findings_of}
use Rattle.tk_odd.specs.Words.{name_of, when_word}
use Rattle.tk_odd.specs.declared.finding.Finding.{Finding}
use Rattle.tk_odd.specs.declared.held.Held.{Held}
use Rattle.tk_odd.specs.declared.limits.Limits.{Limits}
use Rattle.tk_odd.specs.declared.shares.Shares.{Shares}
use Rattle.tk_series.specs.Series.{series_of}
use Rattle.tk_stream.specs.Tables.{TablesView}
use Rattle.tk_metrics.specs.Samples.{family, head_of, label, sample, with_label}
use Rattle.tk_metrics.specs.declared.blame.Tally.{Tally}
use Rattle.tk_metrics.specs.declared.by.By.{By}
use Rattle.tk_metrics.specs.declared.by.By.TheVariants.{Name, Id, Place}
use Rattle.tk_metrics.specs.declared.family.Family.TheVariants as families

-- who holds up whom: what is odd, worst first; for how long the tasks of each place held up others; and what was waited, shared out
pub record Blame : Type 0 where
  pub findings : List Placed
  pub held : List (List ℕ × Held)
  pub shares : Shares

-- the same by these limits, after lines whose last one has these tables
abbrev pub blame_in : Limits → List TablesView → TablesView → Blame
blame_in limits shown tables = record {
  findings = findings_of limits (standing_of limits shown) tables;
  held = (standing_of limits shown).places.0;
  shares = (standing_of limits shown).shares;
}

-- ---- findings

-- the task to look at, before other labels, where each task is shown by itself and a finding is about tasks
abbrev pub task_label : By → Option ℕ → List ℕ
task_label Name task = []
task_label Place task = []
task_label Id None = []
task_label Id (Some task) = label (codes "id") (id_text task) ++ 44 ∷ []

-- the label of a place, which is empty where a finding is of no place
abbrev pub place_key : List ℕ
place_key = codes "place"

-- the labels of a finding: what it is, whether it holds at the last line, and where
abbrev pub finding_labels : By → Placed → List ℕ
finding_labels by (place, x) =
    task_label by x.task ++ with_label (with_label (label (codes "kind") (name_of x.kind)) (codes "when") (when_word x.is_now)) place_key place

-- how many tasks a finding is about: it tells of one at least
abbrev pub tally_of : Finding → Tally
tally_of x = record { tasks = max 1 x.tasks }

-- how many both are about
abbrev pub plus_tally : Tally → Tally → Tally
plus_tally a b = record { tasks = capped (a.tasks + b.tasks) }

-- a finding, with how many tasks it is about
abbrev pub finding_entry : By → Placed → List ℕ × Tally
finding_entry by (place, x) = (finding_labels by (place, x), tally_of x)

-- the series of findings, in their order
abbrev pub finding_series : By → List Placed → List (List ℕ × Tally)
finding_series by findings = series_of plus_tally (map (finding_entry by) findings)

-- the sample of a series of findings
abbrev pub finding_sample : List ℕ × Tally → List ℕ
finding_sample s = sample families.Findings (s.0, s.1.tasks)

-- ---- what was waited

-- the sample of a place: for how long its tasks held up others
abbrev pub held_sample : List ℕ × Held → List ℕ
held_sample h = sample families.HeldUp (label place_key h.0, h.1.charged)

-- how long tasks waited for this
abbrev pub waited_sample : List ℕ → ℕ → List ℕ
waited_sample what n = sample families.Waited (label (codes "for") what, n)

-- for polls that ran long, in the queue that each service has, and for nobody
abbrev pub waited_family : Shares → List ℕ
waited_family s =
    head_of families.Waited
    ++ (waited_sample (codes "long-polls") s.charged
    ++ (waited_sample (codes "queue") s.queued
    ++ waited_sample (codes "nobody") s.nobody))

-- ---- the families

abbrev pub blame_families : By → Blame → List ℕ
blame_families by blame =
    family families.Findings finding_sample (finding_series by blame.findings)
    ++ (family families.HeldUp held_sample blame.held
    ++ waited_family blame.shares)
