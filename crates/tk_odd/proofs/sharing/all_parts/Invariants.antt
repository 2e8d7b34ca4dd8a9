use Rattle.std.proofs.Common.{◌≡◌, ◌≤◌, ◌*◌}
use Rattle.std.specs.Prelude.{sum_by, take}
use Rattle.tk_odd.specs.Sharing.{part_in}
use Rattle.tk_odd.proofs.sharing.all_parts.Given as goal

-- the sum so far
abbrev pub invariant-loop-one : goal.invariant-loop-one
invariant-loop-one l = record {
  sum : l.sum ≡ sum_by (part_in l.moved) (take l.one-index l.moved);
  most : l.sum ≤ l.one-index * 4294967296;
}
