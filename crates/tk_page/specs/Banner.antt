-- What holds now, above all else.
use Rattle.std.specs.Prelude.{ℕ, ◌==◌, Bool, Option, Some, None, if◌then◌else◌, List, [], ◌∷◌, ◌++◌, codes, flat_map}
use Rattle.tk_core.specs.Lasting.{runs_for}
use Rattle.tk_odd.specs.Findings.{is_urgent}
use Rattle.tk_odd.specs.Words.{advice_of, said_of}
use Rattle.tk_odd.specs.declared.finding.Finding.{Finding}
use Rattle.tk_odd.specs.declared.finding.Found.{Found}
use Rattle.tk_odd.specs.declared.finding.OddKind.{OddKind}
use Rattle.tk_stream.specs.Tables.{TablesView}
use Rattle.tk_stream.specs.declared.tables.task.Task.{Task}
use Rattle.tk_paper.specs.Parts.{Bit, text, count, span, close, class}
use Rattle.tk_paper.specs.declared.marks.Tag.TheVariants as tags
use Rattle.tk_page.specs.declared.oddities.Signs.{Signs}
use Rattle.tk_odd.specs.declared.waiting.Waiting.{Waiting}
use Rattle.tk_page.specs.Cards.{made, task_of, who}
use Rattle.tk_page.specs.Odd.{carded}
use Rattle.tk_odd.specs.Waiting.{waiting_of}

-- what is said of who a finding is about
abbrev pub doing_so : Bool → OddKind → List Bit
doing_so is_now kind = text (codes " ") ∷ text (said_of is_now kind) ∷ []

-- for how long a task has held its thread, where it does; else what is said of it
abbrev pub doing_of : ℕ → Bool → OddKind → Task → List Bit
doing_of now is_now kind t =
    if t.row.polling then text (codes " has held its thread for ") ∷ span (runs_for t.row now) ∷ [] else doing_so is_now kind

-- the same where the task that a finding names may have left, or there is none
abbrev pub doing : ℕ → Bool → OddKind → Option Task → List Bit
doing now is_now kind None = doing_so is_now kind
doing now is_now kind (Some t) = doing_of now is_now kind t

-- how many tasks wait, where any do
abbrev pub waiting : Waiting → List Bit
waiting w =
    if w.count == 0 then [] else
    text (codes "; ") ∷ count w.count ∷ text (if w.count == 1 then codes " task waits" else codes " tasks wait") ∷ text (codes ", the longest for ") ∷ span w.longest ∷ []

-- the begin of a banner
abbrev pub start_banner : List Bit
start_banner = class tags.P (codes "now") ∷ class tags.Span (codes "tag") ∷ text (codes "now") ∷ close tags.Span ∷ text (codes " ") ∷ []

-- its end, with what to do
abbrev pub end_banner : OddKind → List Bit
end_banner kind = text (codes " What to do: ") ∷ text (advice_of kind) ∷ text (codes ".") ∷ close tags.P ∷ []

-- the banner of a finding, with the place that it is about
abbrev pub alarm : ℕ → Waiting → List Task → List ℕ → Finding → List Bit
alarm now w tasks place f =
    start_banner ++ (who (task_of tasks f) f.task ++ (doing now f.is_now f.kind (task_of tasks f) ++ (waiting w ++ (text (codes ".") ∷ []
    ++ (made place (task_of tasks f) ++ end_banner f.kind)))))

-- the same where it is urgent
abbrev pub alarm_if : ℕ → Waiting → List Task → Found → List Bit
alarm_if now w tasks x = if is_urgent x.finding then alarm now w tasks x.place.items x.finding else []

-- no line came
abbrev pub no_line : List Bit
no_line = class tags.P (codes "now") ∷ text (codes "No line came: this page knows nothing of any task.") ∷ close tags.P ∷ []

-- what stands above all else
abbrev pub banner : Signs → ℕ → TablesView → List Bit
banner signs lines tables =
    if lines == 0 then no_line else flat_map (alarm_if tables.now (waiting_of tables.now tables.tasks) tables.tasks) (carded signs)
