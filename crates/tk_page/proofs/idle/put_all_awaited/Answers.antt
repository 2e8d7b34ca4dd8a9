use Rattle.std.proofs.Common.{◌≡◌, ◌∙◌, ap, filter, map}
use Rattle.tk_page.specs.Idle.{is_awaited_by}
use Rattle.tk_page.proofs.idle.put_all_awaited.Goals as goal

pub returns : goal.returns
returns c =
    let found : map (λ o. o.now) c.as_slice.result.now ≡ filter (is_awaited_by c.args.task.now) c.args.tables.now.ops = ap (map (λ o. o.now)) c.as_slice.ensures.value ∙ c.in_ok-found.ensures in
    rw found at c.in_ok-put_some_awaited.ensures
