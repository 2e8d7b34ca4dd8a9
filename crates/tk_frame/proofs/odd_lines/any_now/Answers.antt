use Rattle.std.proofs.Common.{sym, arith}
use Rattle.tk_frame.proofs.FindingLemmas.{none_now, now_at}
use Rattle.tk_frame.proofs.odd_lines.any_now.Goals as goal

pub returns-then-found : goal.returns-then-found
returns-then-found c = sym (now_at c.args.list.now c.loop-found.found-index c.found-item.result (omega arith) c.found-item.is c.if-found.true)

pub loop-found-preserved : goal.loop-found-preserved
loop-found-preserved c = none_now c.args.list.now c.loop-found.found-index c.found-item.result (omega arith) c.found-item.is c.loop-found.invariant c.if-found.false
