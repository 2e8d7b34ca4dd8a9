use Rattle.std.proofs.Common.{◌≡◌, ◌≤◌, ◌*◌}
use Rattle.std.specs.Prelude.{sum_by, take, if◌then◌else◌}
use Rattle.tk_odd.specs.Apart.{is_apart}
use Rattle.tk_odd.specs.Sharing.{part_in}
use Rattle.tk_odd.proofs.sharing.apart_parts.Given as goal

-- the sum so far
abbrev pub invariant-loop-other : goal.invariant-loop-other
invariant-loop-other l = record {
  sum : l.sum ≡ sum_by (λ y. if is_apart l.now l.one y then part_in l.moved y else 0) (take l.other-index l.moved);
  most : l.sum ≤ l.other-index * 4294967296;
}
