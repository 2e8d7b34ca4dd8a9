use Rattle.std.proofs.Common.{◌≡◌, List, ◌++◌, ◌∷◌, [], false, arith, sym, subst, rules}
use Rattle.std.proofs.lemmas.Grind.{common_steps}
use Rattle.tk_live.specs.Blocks.{spends}
use Rattle.tk_live.specs.Threads.{LastsAreLast}
use Rattle.tk_script.specs.declared.block.WorkerLine.{WorkerLine}
use Rattle.tk_live.proofs.Ran.{lasts_more}
use Rattle.tk_live.proofs.worker_lines.WorkerLines.push.Goals as goal

pub invariant_of-self-in-Ok : goal.invariant_of-self-in-Ok
invariant_of-self-in-Ok c =
    let ls = c.self.inside.lines.items in
    let goes : spends c.args.line.waker ls ≡ false = subst (λ (l : List WorkerLine). spends c.args.line.waker l ≡ false) (sym c.self.view_is) c.requires in
    let items : c.push_reserved.new.self.items ≡ ls ++ c.args.line ∷ [] = search rules in
    (grind (arith, common_steps), subst LastsAreLast (sym items) (lasts_more ls c.args.line c.self.invariant.1 goes))
