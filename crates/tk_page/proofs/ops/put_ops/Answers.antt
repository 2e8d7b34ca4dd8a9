use Rattle.std.proofs.Common.{◌≡◌, ◌∙◌, ap, filter, map, true, false}
use Rattle.tk_page.specs.Items.{is_of}
use Rattle.tk_page.proofs.ops.put_ops.Goals as goal

pub returns : goal.returns
returns c =
    let ops = c.args.tables.now.ops in
    let live : map (λ o. o.now) c.as_slice.result.now ≡ filter (is_of c.args.resource.now true) ops = ap (map (λ o. o.now)) c.as_slice.ensures.value ∙ c.in_ok-live.ensures in
    let closed : map (λ o. o.now) c.as_slice-2.result.now ≡ filter (is_of c.args.resource.now false) ops =
    ap (map (λ o. o.now)) c.as_slice-2.ensures.value ∙ c.in_ok-closed.ensures in
    rw (live, closed) at c.in_ok-put_ops_of.ensures
