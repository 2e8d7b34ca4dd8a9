use Rattle.std.proofs.Common.{arith}
use Rattle.tk_page.specs.Picture.{held_words}
use Rattle.tk_paper.proofs.PutLemmas.{nothing}
use Rattle.tk_page.proofs.LoopLemmas.{all_parts, item_at, next_part}
use Rattle.tk_page.proofs.picture.put_all_held_words.Goals as goal

pub loop-one-init : goal.loop-one-init
loop-one-init c = nothing c.args.paper.now

pub loop-one-preserved : goal.loop-one-preserved
loop-one-preserved c =
    let xs = c.args.blamed.now in
    let i = c.loop-one.one-index in
    next_part (held_words c.args.scale) xs i c.one-item.result (item_at xs i c.one-item.result (omega arith) c.one-item.is) c.loop-one.invariant c.in_ok-put_held_words.ensures

pub returns : goal.returns
returns c = all_parts (held_words c.args.scale) c.args.blamed.now c.loop-one.one-index (omega arith) c.loop-one.invariant
