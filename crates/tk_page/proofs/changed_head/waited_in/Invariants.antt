use Rattle.std.proofs.Common.{◌≡◌, take}
use Rattle.tk_page.specs.Changed.{waited_in}
use Rattle.tk_page.proofs.changed_head.waited_in.Given as goal

-- the sum so far
abbrev pub invariant-loop-at : goal.invariant-loop-at
invariant-loop-at l = l.sum ≡ waited_in l.side (take l.at l.places)
