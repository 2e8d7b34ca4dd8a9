use Rattle.std.proofs.Common.{◌≡◌, ℕ, Bool, true, false, None, refl, ap, ap₂, sym, ◌∙◌, if◌then◌else◌}
use Rattle.std.specs.Prelude.{IsTrue}
use Rattle.tk_stream.specs.Lines.{line_between, snapshot_of}
use Rattle.tk_stream.specs.Tables.{TablesView, empty_tables}
use Rattle.tk_stream.proofs.line.Line.between.Goals as goal

-- a line that is marked so is the snapshot, or the line between
marked : (old new : TablesView) (seq : ℕ) (snapshot : Bool) → (IsTrue snapshot → old ≡ empty_tables)
    → record (line_between old new seq) { snapshot = snapshot } ≡ (if snapshot then snapshot_of new seq else line_between old new seq)
marked old new seq true whole = ap (λ (o : TablesView). record (line_between o new seq) { snapshot = true }) (whole refl)
marked old new seq false whole = refl

pub returns-clause-ok : goal.returns-clause-ok
returns-clause-ok c =
    c.of_parts.ensures
    ∙ (λ i. record {
      dropped = (c.dropped-dropped.ensures ∙ ap (λ (v : TablesView). v.dropped) (sym c.new.view_is)) i;
      gone = None;
      new_ops = c.in_ok-new_ops.ensures i;
      new_resources = c.in_ok-new_resources.ensures i;
      new_tasks = c.in_ok-new_tasks.ensures i;
      now = (c.now-moment.ensures ∙ ap (λ (v : TablesView). v.now) (sym c.new.view_is)) i;
      op_stats = c.in_ok-op_stats.ensures i;
      poll_counts = c.in_ok-poll_counts.ensures i;
      resource_stats = c.in_ok-resource_stats.ensures i;
      seq = c.args.seq;
      snapshot = c.args.snapshot;
      task_stats = c.in_ok-task_stats.ensures i;
      task_times = None;
    })
    ∙ ap₂ (λ (o n : TablesView). record (line_between o n c.args.seq) { snapshot = c.args.snapshot }) c.old.view_is c.new.view_is
    ∙ marked c.args.old.now c.args.new.now c.args.seq c.args.snapshot c.requires.whole
