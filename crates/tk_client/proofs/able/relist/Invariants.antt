use Rattle.std.proofs.Common.{◌≡◌, ◌≤◌, ◌+◌, ℕ, length, nat_eq, take, map, cond}
use Rattle.indexmap.specs.IndexSet.{contains, spare}
use Rattle.tk_stream.specs.Applied.{task_kind}
use Rattle.tk_stream.specs.Tables.{is_among}
use Rattle.tk_client.specs.Candidates.{is_able}
use Rattle.tk_client.specs.Applying.{stats_id_by}
use Rattle.tk_client.proofs.able.relist.Given as goal

-- the tasks so far are listed as they are, and there is room for the others
abbrev pub invariant-loop-id : goal.invariant-loop-id
invariant-loop-id l = record {
  room : length l.told ≤ spare l.able + l.id-index;
  listed : (other : ℕ) → contains nat_eq l.able other ≡ cond (is_among (map (stats_id_by task_kind) (take l.id-index l.told)) other) (is_able l.tables.tasks other) (contains nat_eq l.fn.able other);
}
