use Rattle.std.proofs.Common.{arith}
use Rattle.tk_page.specs.Banner.{alarm_if}
use Rattle.tk_paper.proofs.PutLemmas.{nothing}
use Rattle.tk_page.proofs.LoopLemmas.{all_parts, item_at, next_part}
use Rattle.tk_page.proofs.banner.put_alarms.Goals as goal

pub loop-found-init : goal.loop-found-init
loop-found-init c = nothing c.args.paper.now

pub loop-found-preserved : goal.loop-found-preserved
loop-found-preserved c =
    let xs = c.args.findings.now in
    let i = c.loop-found.found-index in
    next_part (alarm_if c.args.tables.now.now c.args.waiting c.args.tables.now.tasks) xs i c.found-item.result (item_at xs i c.found-item.result (omega arith) c.found-item.is) c.loop-found.invariant c.in_ok-put_alarm_if.ensures

pub returns : goal.returns
returns c = all_parts (alarm_if c.args.tables.now.now c.args.waiting c.args.tables.now.tasks) c.args.findings.now c.loop-found.found-index (omega arith) c.loop-found.invariant
