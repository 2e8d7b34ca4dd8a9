use Rattle.std.proofs.Common.{◌≡◌, true, nat_lt}
use Rattle.std.proofs.lemmas.Bool.{lt-ltb}
use Rattle.tk_page.proofs.tasks_head.put_top.Goals as goal

pub returns-then-height : goal.returns-then-height
returns-then-height c =
    let above : nat_lt c.args.height.top c.args.height.most ≡ true = lt-ltb _ _ c.if-height.true in
    rw above c.put.ensures
