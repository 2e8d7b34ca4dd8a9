use Rattle.std.proofs.Common.{◌≡◌, ℕ, take, nat_eq}
use Rattle.std.specs.List.{IsDistinct}
use Rattle.std.specs.Prelude.{map, ◌||◌}
use Rattle.tk_stream.specs.Applied.{task_kind}
use Rattle.tk_stream.specs.Tables.{is_among}
use Rattle.tk_stream.specs.Times.{times_id}
use Rattle.tk_client.specs.Applying.{stats_id_by}
use Rattle.tk_client.proofs.change.told_by.Given as goal

-- the tasks whose rows are told so far
abbrev pub invariant-loop-task : goal.invariant-loop-task
invariant-loop-task l = record {
  told : (id : ℕ) → is_among l.ids.keys id ≡ is_among (map (stats_id_by task_kind) (take l.task-index l.task-items)) id;
  once : IsDistinct nat_eq l.ids.keys;
}

-- and those whose histograms are
abbrev pub invariant-loop-timed : goal.invariant-loop-timed
invariant-loop-timed l = record {
  told : (id : ℕ) → is_among l.ids.keys id ≡ (is_among (map (stats_id_by task_kind) l.line.task_stats) id || is_among (map times_id (take l.timed-index l.timed-items)) id);
  once : IsDistinct nat_eq l.ids.keys;
}
