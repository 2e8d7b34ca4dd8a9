use Rattle.std.proofs.Common.{refl}
use Rattle.tk_live.specs.Runs.{block_of}
use Rattle.tk_live.proofs.Joining.{join_goes}
use Rattle.tk_live.proofs.interpreter.Interpreter.join.Goals as goal

pub run_block-requires : goal.run_block-requires
run_block-requires g c = (c.type_bounds.sync-R, (c.type_bounds.sync-G, (c.requires.1.pasts, c.requires.4.holds.tasks_are)))

pub returns-clause-ok : goal.returns-clause-ok
returns-clause-ok g c =
    let i = c.args.self.now in
    join_goes i (record i { tasks = c.run_block.new.tasks; wakers = c.run_block.new.wakers }) (block_of c.args.block.now) refl c.run_block.result c.run_block.ensures.same c.run_block.ensures.ok
