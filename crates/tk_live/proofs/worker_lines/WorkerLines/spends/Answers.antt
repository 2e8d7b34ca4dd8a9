use Rattle.std.proofs.Common.{sym, ap, ◌∙◌}
use Rattle.tk_live.specs.Blocks as blocks
use Rattle.tk_live.proofs.Marks.{mark_absent}
use Rattle.tk_live.proofs.worker_lines.WorkerLines.spends.Goals as goal

pub returns-in-None : goal.returns-in-None
returns-in-None c =
    mark_absent c.self.inside.lines.items c.self.inside.spent c.self.invariant.0 c.args.waker (sym c.in-None.ensures.value) ∙ ap (blocks.spends c.args.waker) c.self.view_is
