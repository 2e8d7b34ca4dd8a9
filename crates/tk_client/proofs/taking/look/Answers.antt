use Rattle.std.proofs.Common.{sym, ◌∙◌}
use Rattle.tk_client.proofs.LineLemmas.{found-as, new-decide, strangers}
use Rattle.tk_client.proofs.taking.look.Goals as goal

pub returns : goal.returns
returns g c =
    let k = g.T.Listed.kind in
    let items = g.T.Listed.items c.args.old.now in
    let ids = c.deref.result.now in
    found-as c.look_beside.result _ _ _ _
    (new-decide k items c.args.infos.now ids c.args.stats.now (c.deref.ensures.value ∙ c.in_ok-ids.ensures) (sym c.has_any.ensures ∙ c.if-has_any.false) (sym c.in_ok-is_told_twice.ensures ∙ c.if-branch.false))
    (strangers k items c.args.infos.now ids c.args.stats.now (c.deref.ensures.value ∙ c.in_ok-ids.ensures))
    c.look_beside.ensures
