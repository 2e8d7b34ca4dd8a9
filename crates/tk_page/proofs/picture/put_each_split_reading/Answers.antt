use Rattle.std.proofs.Common.{arith}
use Rattle.tk_page.specs.Picture.{split_reading}
use Rattle.tk_page.specs.declared.picture.Split.{Split}
use Rattle.tk_paper.proofs.PutLemmas.{nothing}
use Rattle.tk_page.proofs.LoopLemmas.{next_of}
use Rattle.tk_page.proofs.picture.put_each_split_reading.Goals as goal

pub loop-split-init : goal.loop-split-init
loop-split-init c = nothing c.args.paper.now

pub loop-split-preserved : goal.loop-split-preserved
loop-split-preserved c =
    let zero : Split = record { from = 0; to = 0; waited = 0; first = 0; second = 0 } in
    next_of (split_reading c.args.scale) c.args.splits.now c.loop-split.split-index zero (omega arith) c.loop-split.invariant c.in_ok-put_split_reading.ensures
