use Rattle.std.proofs.Common.{◌≡◌, ◌-◌, ◌≤◌, length, take, false}
use Rattle.tk_client.specs.Meaning.{meaning, goes}
use Rattle.tk_client.proofs.client.Client.feed.Given as goal

-- how far the client has come
abbrev pub invariant-loop-at : goal.invariant-loop-at
invariant-loop-at l = record {
  within : l.at ≤ length l.piece;
  few : l.lines ≤ l.at;
  came : meaning l.fn.self.max_line l.fn.self.start (take l.at l.piece) ≡ goes l.self.start l.lines;
  sound : l.self.has_failed ≡ false;
  limit : l.self.max_line ≡ l.fn.self.max_line;
}

abbrev pub decreases-loop-at : goal.decreases-loop-at
decreases-loop-at l = length l.piece - l.at
