use Rattle.std.proofs.Common.{◌∙◌}
use Rattle.tk_stream.specs.Tables.{task_id, resource_id, op_id, counts_id}
use Rattle.tk_stream.specs.Rows.{same_counts}
use Rattle.tk_stream.specs.Lines.{task_info, resource_info, op_info, task_stats_of, resource_stats_of, op_stats_of, all_counts, have_same_row, have_same_resource_row, have_same_op_row}
use Rattle.tk_stream.proofs.LinesLemmas.{all_infos, all_stats, map-same}
use Rattle.tk_stream.proofs.laws.snapshots_tell_all.Goals as goal

pub returns : goal.returns
returns c tables seq = record {
  new_ops = all_infos op_id op_info tables.ops;
  new_resources = all_infos resource_id resource_info tables.resources;
  new_tasks = all_infos task_id task_info tables.tasks;
  op_stats = all_stats op_id have_same_op_row op_stats_of tables.ops;
  poll_counts = all_stats counts_id same_counts all_counts tables.counts ∙ map-same tables.counts;
  resource_stats = all_stats resource_id have_same_resource_row resource_stats_of tables.resources;
  task_stats = all_stats task_id have_same_row task_stats_of tables.tasks;
}
