use Rattle.std.proofs.Common.{None, ap, ap₂, sym, ◌∙◌}
use Rattle.tk_stream.specs.Fronts.{ToldView, told_tables}
use Rattle.tk_stream.specs.Lines.{line_between}
use Rattle.tk_stream.specs.Tables.{TablesView}
use Rattle.tk_stream.proofs.line.Line.since.Goals as goal

pub returns-clause-ok : goal.returns-clause-ok
returns-clause-ok c =
    c.of_parts.ensures
    ∙ (λ i. record {
      dropped = (c.dropped-dropped.ensures ∙ ap (λ (v : TablesView). v.dropped) (sym c.tables.view_is)) i;
      gone = None;
      new_ops = c.in_ok-new_ops.ensures i;
      new_resources = c.in_ok-new_resources.ensures i;
      new_tasks = c.in_ok-new_tasks.ensures i;
      now = c.args.now;
      op_stats = c.in_ok-op_stats.ensures i;
      poll_counts = c.in_ok-poll_counts.ensures i;
      resource_stats = c.in_ok-resource_stats.ensures i;
      seq = c.args.seq;
      snapshot = c.args.snapshot;
      task_stats = c.in_ok-task_stats.ensures i;
      task_times = None;
    })
    ∙ ap₂ (λ (t : ToldView) (v : TablesView). record (line_between (told_tables t v) (record v { now = c.args.now }) c.args.seq) { snapshot = c.args.snapshot }) c.told.view_is c.tables.view_is
