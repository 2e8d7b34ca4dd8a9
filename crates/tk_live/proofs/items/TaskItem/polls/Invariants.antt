use Rattle.std.proofs.Common.{◌≡◌, ℕ, ◌<◌, false, map}
use Rattle.std.specs.Prelude.{◌⊎◌}
use Rattle.tk_live.specs.Items.{IsTask, IsSameTask}
use Rattle.tk_live.specs.Pasts.{TaskPast, one, and_called, is_polled, polls_of}
use Rattle.tk_live.proofs.items.TaskItem.polls.Given as goal

-- so many polls were made; none of them where the task was polled
abbrev pub invariant-loop-i : goal.invariant-loop-i
invariant-loop-i g l = record {
  same : IsSameTask l.fn.self l.self;
  still : l.self.closed ≡ false;
  so_far : (n : ℕ) (p : TaskPast) → IsTask n p l.fn.self → IsTask n (and_called (map one (polls_of l.i l.moment l.run l.every)) p) l.self;
  idle : (n : ℕ) (p : TaskPast) → IsTask n p l.fn.self → (l.i ≡ 0) ⊎ (is_polled p ≡ false);
}
