use Rattle.std.proofs.Common.{◌≡◌, take}
use Rattle.tk_screen.specs.Rankings.{kept}
use Rattle.tk_frame.specs.Queries.{ranked_from, task_key}
use Rattle.tk_frame.specs.Walks.{tally}
use Rattle.tk_frame.proofs.ranks.walk.Given as goal

-- the states and the first of the tasks so far
abbrev pub invariant-loop-place : goal.invariant-loop-place
invariant-loop-place l = record {
  states : l.states ≡ tally (take l.place l.tables.tasks);
  items : l.top.items ≡ kept l.rows (ranked_from (task_key l.query l.tables.now) 0 (take l.place l.tables.tasks));
  room : l.top.room ≡ l.rows;
}
