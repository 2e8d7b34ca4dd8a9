use Rattle.std.proofs.Common.{take}
use Rattle.tk_paper.specs.Pieces.{Writes}
use Rattle.tk_page.specs.PollTimes as spec
use Rattle.tk_page.proofs.poll_times.put_each_bar.Given as goal

-- the bars so far
abbrev pub invariant-loop-bucket : goal.invariant-loop-bucket
invariant-loop-bucket l = Writes l.initial.paper l.paper (spec.bars_from l.most 0 (take l.bucket l.counts))
