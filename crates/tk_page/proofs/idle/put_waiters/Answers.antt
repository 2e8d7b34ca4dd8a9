use Rattle.std.proofs.Common.{◌≡◌, ◌∙◌, ap, filter, map}
use Rattle.tk_page.specs.Idle.{waits_at}
use Rattle.tk_page.proofs.idle.put_waiters.Goals as goal

pub returns : goal.returns
returns c =
    let found : map (λ o. o.now) c.as_slice.result.now ≡ filter (waits_at c.args.tables.now.tasks c.args.resource.now) c.args.tables.now.ops = ap (map (λ o. o.now)) c.as_slice.ensures.value ∙ c.in_ok-found.ensures in
    rw found at c.in_ok-put_some_waiters.ensures
