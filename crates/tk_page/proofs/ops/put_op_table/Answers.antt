use Rattle.std.proofs.Common.{◌≡◌, ◌-◌, ◌+◌, ◌∙◌, ap, length, map, sym, take, arith}
use Rattle.std.proofs.lemmas.List.{length-map}
use Rattle.tk_core.specs.Lists.{capped}
use Rattle.tk_paper.proofs.PutLemmas.{then}
use Rattle.tk_page.proofs.LoopLemmas.{map_take}
use Rattle.tk_page.proofs.ops.put_op_table.Goals as goal

pub returns : goal.returns
returns c =
    let live = map (λ o. o.now) c.args.live.now in
    let closed = map (λ o. o.now) c.args.closed.now in
    let n = length-map c.args.live.now (λ o. o.now) in
    let m = length-map c.args.closed.now (λ o. o.now) in
    let number : length c.args.live.now ≡ length live = sym n in
    let all : c.saturating_add-all.result ≡ capped (length live + length closed) = omega (arith, c.saturating_add-all.ensures, n, m) in
    let room : c.saturating_sub.result ≡ 20 - length live = omega (arith, c.saturating_sub.ensures, number) in
    let first : map (λ o. o.now) c.front-first.result.now ≡ take 20 live = ap (map (λ o. o.now)) c.front-first.ensures ∙ map_take (λ o. o.now) 20 c.args.live.now in
    let next : map (λ o. o.now) c.front-next.result.now ≡ take (20 - length live) closed =
    ap (map (λ o. o.now)) c.front-next.ensures ∙ map_take (λ o. o.now) c.saturating_sub.result c.args.closed.now ∙ ap (λ k. take k closed) room in
    rw (first, next, all, number) at
    (then c.in_ok-put_op_counts.ensures (then c.in_ok-put_columns.ensures (then c.in_ok-put_each_op.ensures (then c.in_ok-put_each_op-2.ensures
    (then c.in_ok-put.ensures (then c.in_ok-put_more.ensures c.in_ok-put-2.ensures))))))
