-- The text of a line between tables, as that of the line that a head and entries ask for.
use Rattle.std.proofs.Common.{◌≡◌, ℕ, List, true, false, map, take, ap, ◌∙◌}
use Rattle.std.specs.Prelude.{Result, Ok, Err, IfOk}
use Rattle.tk_stream.specs.Lines.{LineView, line_between, snapshot_of, with_times}
use Rattle.tk_stream.specs.Retention.{line_pruned, prune}
use Rattle.tk_stream.specs.Spelling.{sent_text}
use Rattle.tk_stream.specs.Tables.{TablesView}
use Rattle.tk_embed.specs.declared.entries.CountEntry.{CountEntry}
use Rattle.tk_embed.specs.declared.entries.Head.{Head}
use Rattle.tk_embed.specs.declared.entries.OpEntry.{OpEntry}
use Rattle.tk_embed.specs.declared.entries.ResourceEntry.{ResourceEntry}
use Rattle.tk_embed.specs.declared.entries.TaskEntry.{TaskEntry}
use Rattle.tk_embed.specs.declared.entries.TimesEntry.{TimesEntry}
use Rattle.tk_embed.specs.Entries.{Given, AreTables, told_of, task_entry_shown, resource_entry_shown, op_entry_shown, count_entry_shown}
use Rattle.tk_embed.specs.Faults.{told_count}
use Rattle.tk_embed.specs.Lines.{IsSnapshotFor, IsChangeFor, IsLine, IsTimedLineFor, IsGoneFor, times_between}

pub snapshot_for : {E : Type 0} (r : Result LineView E) (head : Head) (given : Given) (new : TablesView) → AreTables true head given new
    → IfOk r (λ line. line ≡ snapshot_of new head.seq) → IfOk r (λ line. IsSnapshotFor head given line)
snapshot_for (Ok line) head given new are e = (new, are, e)
snapshot_for (Err fault) head given new are e = tt

pub told_for : (head : Head) (given : Given) (old : TablesView) (tasks : List TaskEntry) (resources : List ResourceEntry) (ops : List OpEntry) (counts : List CountEntry)
    → tasks ≡ take head.told_tasks given.tasks → resources ≡ take head.told_resources given.resources → ops ≡ take head.told_ops given.ops → counts ≡ take head.told_counts given.counts
    → AreTables false head (record { tasks = tasks; resources = resources; ops = ops; counts = counts; attrs = given.attrs; text = given.text }) old
    → AreTables false head (told_of head given) old
told_for head given old tasks resources ops counts a b c d are = record {
  items = record {
    tasks = are.items.tasks ∙ ap (map (task_entry_shown given.text false)) a;
    resources = are.items.resources ∙ ap (map (resource_entry_shown given.text given.attrs false)) b;
    ops = are.items.ops ∙ ap (map (op_entry_shown given.text given.attrs false)) c;
    counts = are.items.counts ∙ ap (map (count_entry_shown false)) d;
  };
  at = are.at;
}

pub change_for : {E : Type 0} (r : Result LineView E) (head : Head) (given : Given) (old new : TablesView) → AreTables false head (told_of head given) old → AreTables true head given new
    → IfOk r (λ line. line ≡ line_between old new head.seq) → IfOk r (λ line. IsChangeFor head given line)
change_for (Ok line) head given old new told are e = (old, new, told, are, e)
change_for (Err fault) head given old new told are e = tt

pub timed_for : {T E : Type 0} (items : T → List ℕ) (r : Result T E) (head : Head) (given : Given) (told : ℕ) (times : List TimesEntry) (line timed : LineView) (count : ℕ)
    → IsLine head.snapshot head given line → count ≡ told_count head told → timed ≡ with_times (times_between count times) line
    → IfOk r (λ text. items text ≡ sent_text timed) → IfOk r (λ text. IsTimedLineFor head given told times (items text))
timed_for items (Ok text) head given told times line timed count is many e sent = (line, is, sent ∙ ap sent_text (e ∙ ap (λ n. with_times (times_between n times) line) many))
timed_for items (Err fault) head given told times line timed count is many e sent = tt

pub gone_for : {T E : Type 0} (items : T → List ℕ) (r : Result T E) (head : Head) (retention : ℕ) (given : Given) (told : TablesView) → AreTables true head given told
    → IfOk r (λ text. items text ≡ sent_text (line_pruned told (prune (record told { now = head.moment }) told head.moment retention) head.seq)) → IfOk r (λ text. IsGoneFor head retention given (items text))
gone_for items (Ok text) head retention given told are e = (told, are, e)
gone_for items (Err fault) head retention given told are e = tt
