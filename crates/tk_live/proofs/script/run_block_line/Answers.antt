use Rattle.std.proofs.Common.{◌≡◌, Some, sym, ◌∙◌}
use Rattle.tk_live.specs.Runs.{block_of}
use Rattle.tk_live.specs.Items.{woken_by}
use Rattle.tk_live.proofs.Blocks.{open_is, join_came, work_came}
use Rattle.tk_live.proofs.script.run_block_line.Goals as goal

pub returns-in-Some : goal.returns-in-Some
returns-in-Some g c number settings k kept sent stands was =
    let b = c.in-Some.open in
    let opened : k.block ≡ Some (block_of b) = open_is c.args.block.now b k was (sym c.take.ensures.value ∙ c.in-Some.is) in
    rw (c.in-Joins.is, c.take.ensures.after) (join_came (g.G.Gate.answers c.args.gate.now) number settings k kept sent c.args.interpreter.now c.join.new.self (block_of b) c.join.result opened (was.apart (block_of b) opened) stands
    c.join.ensures.ok c.join.ensures.err)

pub returns-in-Some-block : goal.returns-in-Some-block
returns-in-Some-block g c number settings k kept sent stands was =
    let b = c.in-Some-block.open in
    let i = c.args.interpreter.now in
    let opened : k.block ≡ Some (block_of b) = open_is c.args.block.now b k was c.in-Some-block.is in
    rw c.in-Works.is (work_came (g.G.Gate.answers c.args.gate.now) number settings k kept sent i b c.add.new.self c.in-Works.worker c.in-Works.line (woken_by i.wakers.items) c.add.result opened (was.apart (block_of b) opened) stands
    stands.holds.tasks_are.wakers_are c.add.ensures.goes c.add.ensures.more c.add.ensures.err)
