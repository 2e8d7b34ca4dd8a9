use Rattle.std.proofs.Common.{◌≡◌, take, arith}
use Rattle.tk_paper.proofs.PutLemmas.{then}
use Rattle.tk_page.proofs.LoopLemmas.{take_min}
use Rattle.tk_page.proofs.resources.put_all_resources.Goals as goal

pub returns : goal.returns
returns c =
    let xs = c.args.tables.now.resources in
    let shown : take c.min.result xs ≡ take 50 xs = take_min xs c.min.result 50 (omega (arith, c.min.ensures, c.requires)) in
    rw (shown, c.requires) at
    (then c.in_ok-start_section.ensures (then c.in_ok-put.ensures (then c.in_ok-put_some_resources.ensures (then c.in_ok-put_more.ensures c.in_ok-put-2.ensures))))
