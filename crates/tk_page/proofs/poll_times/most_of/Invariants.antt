use Rattle.std.proofs.Common.{◌≡◌, take}
use Rattle.tk_page.specs.PollTimes as spec
use Rattle.tk_page.proofs.poll_times.most_of.Given as goal

-- the most so far
abbrev pub invariant-loop-count : goal.invariant-loop-count
invariant-loop-count l = l.most ≡ spec.most_of (take l.count-index l.counts)
