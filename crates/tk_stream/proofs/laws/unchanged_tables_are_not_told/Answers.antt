use Rattle.tk_stream.specs.Tables.{task_id, resource_id, op_id, counts_id}
use Rattle.tk_stream.specs.Rows.{same_counts}
use Rattle.tk_stream.specs.Lines.{task_info, resource_info, op_info, task_stats_of, resource_stats_of, op_stats_of, all_counts, have_same_row, have_same_resource_row, have_same_op_row}
use Rattle.tk_stream.proofs.LinesLemmas.{no_infos, no_stats}
use Rattle.tk_stream.proofs.RowsLemmas.{agrees, resource_agrees, op_agrees, all_counts_agree}
use Rattle.tk_stream.proofs.laws.unchanged_tables_are_not_told.Goals as goal

pub returns : goal.returns
returns c tables seq distinct = record {
  new_ops = no_infos op_id op_info tables.ops distinct.ops;
  new_resources = no_infos resource_id resource_info tables.resources distinct.resources;
  new_tasks = no_infos task_id task_info tables.tasks distinct.tasks;
  op_stats = no_stats op_id have_same_op_row (λ o. op_agrees o.row) op_stats_of tables.ops distinct.ops;
  poll_counts = no_stats counts_id same_counts all_counts_agree all_counts tables.counts distinct.counts;
  resource_stats = no_stats resource_id have_same_resource_row (λ r. resource_agrees r.row) resource_stats_of tables.resources distinct.resources;
  task_stats = no_stats task_id have_same_row (λ t. agrees t.row) task_stats_of tables.tasks distinct.tasks;
}
