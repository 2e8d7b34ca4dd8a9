use Rattle.std.proofs.Common.{refl}
use Rattle.tk_live.specs.Blocks.{lines_of_both}
use Rattle.tk_live.specs.Handed.{Share, TakenBack, its_lines}
use Rattle.tk_live.specs.Runs.{block_of}
use Rattle.tk_live.proofs.Back.{are_out, all_out, all_come}
use Rattle.tk_live.proofs.Joined.{joined_same, joined_holds, its_calls, its_spends}
use Rattle.tk_live.proofs.join.run_block.Goals as goal

pub take_back-requires : goal.take_back-requires
take_back-requires g c =
    let first = c.args.block.now.first in let second = c.args.block.now.second in
    let d = c.in_ok-one in let e = c.in_ok-one-2 in
    are_out first second c.args.wakers.now.items c.args.tasks.now.items c.hand_out.new.tasks.items d.one.items d.two.items e.one.items e.two.items c.requires.1.are_live d.ensures.ok e.ensures.one e.ensures.two e.ensures.lasts.0 e.ensures.lasts.1

pub returns-clause-same : goal.returns-clause-same
returns-clause-same g c =
    let first = c.args.block.now.first in let second = c.args.block.now.second in
    let wakers = c.args.wakers.now.items in let before = c.args.tasks.now.items in
    let d = c.in_ok-one in let e = c.in_ok-one-2 in
    let live = c.requires.1.are_live in
    let share : Share = its_lines first second in
    let back : TakenBack share wakers before 0 c.take_back.new.tasks.items =
    c.take_back.ensures share before
    (all_out first second wakers before c.hand_out.new.tasks.items d.one.items d.two.items e.one.items e.two.items live d.ensures.ok e.ensures.one e.ensures.two e.ensures.lasts.0 e.ensures.lasts.1)
    (all_come first second wakers before c.hand_out.new.tasks.items d.one.items d.two.items e.one.items e.two.items live d.ensures.ok e.ensures.one e.ensures.two e.ensures.lasts.0 e.ensures.lasts.1) in
    joined_same share wakers before c.take_back.new.tasks.items back

pub returns-clause-ok : goal.returns-clause-ok
returns-clause-ok g c = λ ps held apart.
    let first = c.args.block.now.first in let second = c.args.block.now.second in
    let wakers = c.args.wakers.now.items in let before = c.args.tasks.now.items in
    let d = c.in_ok-one in let e = c.in_ok-one-2 in
    let live = c.requires.1.are_live in
    let share : Share = its_lines first second in
    let back : TakenBack share wakers before 0 c.take_back.new.tasks.items =
    c.take_back.ensures share before
    (all_out first second wakers before c.hand_out.new.tasks.items d.one.items d.two.items e.one.items e.two.items live d.ensures.ok e.ensures.one e.ensures.two e.ensures.lasts.0 e.ensures.lasts.1)
    (all_come first second wakers before c.hand_out.new.tasks.items d.one.items d.two.items e.one.items e.two.items live d.ensures.ok e.ensures.one e.ensures.two e.ensures.lasts.0 e.ensures.lasts.1) in
    let b = block_of c.args.block.now in
    joined_holds share (lines_of_both b) (its_calls first second apart) wakers before c.take_back.new.tasks.items back b ps c.spend_all.new.wakers.items refl (its_spends first second apart) held c.spend_all.ensures.woken c.spend_all.ensures.left
