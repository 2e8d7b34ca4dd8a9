use Rattle.std.proofs.Common.{◌≡◌, ℕ, length, subst, rules}
use Rattle.tk_live.specs.Blocks.{lines_of_both}
use Rattle.tk_live.specs.Runs.{block_of}
use Rattle.tk_live.proofs.Spending.{SpentTo, spent_woken, spent_left}
use Rattle.tk_live.proofs.join.spend_all.Goals as goal

pub returns-clause-woken : goal.returns-clause-woken
returns-clause-woken c =
    let ls = lines_of_both (block_of c.args.block.now) in
    let old = c.args.wakers.now.items in
    let all : c.loop-i.i ≡ length old = search rules in
    spent_woken ls old c.loop-i.wakers.items (subst (λ (n : ℕ). SpentTo ls n old c.loop-i.wakers.items) all c.loop-i.invariant.0)

pub returns-clause-left : goal.returns-clause-left
returns-clause-left c =
    let ls = lines_of_both (block_of c.args.block.now) in
    let old = c.args.wakers.now.items in
    let all : c.loop-i.i ≡ length old = search rules in
    spent_left ls old c.loop-i.wakers.items (subst (λ (n : ℕ). SpentTo ls n old c.loop-i.wakers.items) all c.loop-i.invariant.0)
