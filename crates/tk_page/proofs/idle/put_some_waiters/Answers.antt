use Rattle.std.proofs.Common.{◌≡◌, ◌∙◌, ap, length, map, sym, take}
use Rattle.std.proofs.lemmas.List.{length-map}
use Rattle.tk_paper.proofs.PutLemmas.{then}
use Rattle.tk_page.proofs.LoopLemmas.{map_take}
use Rattle.tk_page.proofs.idle.put_some_waiters.Goals as goal

pub returns : goal.returns
returns c =
    let ops = map (λ o. o.now) c.args.ops.now in
    let all : length c.args.ops.now ≡ length ops = sym (length-map c.args.ops.now (λ o. o.now)) in
    let first : map (λ o. o.now) c.front.result.now ≡ take 5 ops = ap (map (λ o. o.now)) c.front.ensures ∙ map_take (λ o. o.now) 5 c.args.ops.now in
    rw (first, all) at (then c.in_ok-put_each_waiter.ensures c.in_ok-put_more.ensures)
