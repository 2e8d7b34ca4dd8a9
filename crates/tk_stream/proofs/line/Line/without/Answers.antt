use Rattle.std.proofs.Common.{List, Option, Some, None, option_map, refl, ap, sym, subst, ◌∙◌}
use Rattle.std.specs.Prelude.{not, IfSome}
use Rattle.std.specs.List.{AllByRecursion}
use Rattle.tk_stream.specs.Lines.{GoneView}
use Rattle.tk_stream.specs.Ranges.{AreOpStats, AreResourceStats, AreTaskStats, AreTold}
use Rattle.tk_stream.specs.Times.{TaskTimes}
use Rattle.tk_stream.specs.Retention.{stats_without, told_without}
use Rattle.tk_stream.specs.Tables.{is_among}
use Rattle.tk_stream.proofs.PruneLemmas.{all_filter}
use Rattle.tk_stream.proofs.line.Line.without.Goals as goal

-- what is told of histograms, whatever is gone
still_told : (old : Option GoneView) (gone : GoneView) (times : Option (List TaskTimes)) → IfSome times (AreTold old) → IfSome times (AreTold (Some gone))
still_told old gone None told = tt
still_told old gone (Some ts) told = record { each = told.each; said = refl }

pub invariant_of-line : goal.invariant_of-line
invariant_of-line c =
    let r = c.line.invariant in
    let gone = c.leaving.inside in record {
      dropped = r.dropped;
      gone = c.see.ensures;
      new_ops = r.new_ops;
      new_resources = r.new_resources;
      new_tasks = r.new_tasks;
      now = r.now;
      op_stats = subst (AllByRecursion AreOpStats) (sym c.leave_out.ensures) (all_filter AreOpStats (λ s. not (is_among gone.ops.keys s.0)) c.line.inside.op_stats.items r.op_stats);
      poll_counts = r.poll_counts;
      resource_stats = subst (AllByRecursion AreResourceStats) (sym c.leave_out-2.ensures) (all_filter AreResourceStats (λ s. not (is_among gone.resources.keys s.0)) c.line.inside.resource_stats.items r.resource_stats);
      seq = r.seq;
      task_stats = subst (AllByRecursion AreTaskStats) (sym c.leave_out-3.ensures) (all_filter AreTaskStats (λ s. not (is_among gone.tasks.keys s.0)) c.line.inside.task_stats.items r.task_stats);
      task_times = still_told _ _ (option_map (λ v. v.items) c.line.inside.task_times) r.task_times;
    }

pub returns : goal.returns
returns c =
    let l = c.line.inside in
    (λ i. record {
      dropped = l.dropped;
      gone = Some (c.requires i);
      new_ops = l.new_ops.items;
      new_resources = l.new_resources.items;
      new_tasks = l.new_tasks.items;
      now = l.moment;
      op_stats = (c.leave_out.ensures ∙ ap (λ (g : GoneView). stats_without (λ s. s.0) g.ops l.op_stats.items) c.leaving.view_is) i;
      poll_counts = l.poll_counts.items;
      resource_stats = (c.leave_out-2.ensures ∙ ap (λ (g : GoneView). stats_without (λ s. s.0) g.resources l.resource_stats.items) c.leaving.view_is) i;
      seq = l.seq;
      snapshot = l.snapshot;
      task_stats = (c.leave_out-3.ensures ∙ ap (λ (g : GoneView). stats_without (λ s. s.0) g.tasks l.task_stats.items) c.leaving.view_is) i;
      task_times = option_map (λ v. v.items) l.task_times;
    })
    ∙ ap (told_without c.args.leaving.now) c.line.view_is
