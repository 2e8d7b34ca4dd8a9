use Rattle.std.proofs.Common.{true, false, ap, sym, ◌∙◌}
use Rattle.std.specs.List.{list_any}
use Rattle.tk_client.specs.Applying.{is_missing}
use Rattle.tk_client.proofs.IdLemmas.{no-ids}
use Rattle.tk_client.proofs.LeaveLemmas.{none-found, repeats-found, others-found}
use Rattle.tk_client.proofs.taking.look_at_kind.Goals as goal

pub returns-then-is_empty : goal.returns-then-is_empty
returns-then-is_empty g c =
    none-found g.T.Listed.kind (g.T.Listed.items c.args.old.now) c.args.gone.now c.args.stats.now
    (sym c.list-ids.ensures.list ∙ no-ids c.list-ids.result.now (sym c.is_empty.ensures ∙ c.if-is_empty.true))

pub returns-then-tells_gone : goal.returns-then-tells_gone
returns-then-tells_gone g c =
    repeats-found g.T.Listed.kind (g.T.Listed.items c.args.old.now) c.args.gone.now c.args.stats.now (sym c.tells_gone.ensures ∙ c.if-tells_gone.true)

pub returns-then-misses_any : goal.returns-then-misses_any
returns-then-misses_any g c =
    let k = g.T.Listed.kind in
    let items = g.T.Listed.items c.args.old.now in
    others-found k items c.args.gone.now c.args.stats.now true c.list-ids.ensures.once (sym c.tells_gone.ensures ∙ c.if-tells_gone.false)
    (ap (list_any (is_missing k items)) (sym c.list-ids.ensures.list) ∙ sym c.misses_any.ensures ∙ c.if-misses_any.true)

pub returns : goal.returns
returns g c =
    let k = g.T.Listed.kind in
    let items = g.T.Listed.items c.args.old.now in
    others-found k items c.args.gone.now c.args.stats.now false c.list-ids.ensures.once (sym c.tells_gone.ensures ∙ c.if-tells_gone.false)
    (ap (list_any (is_missing k items)) (sym c.list-ids.ensures.list) ∙ sym c.misses_any.ensures ∙ c.if-misses_any.false)
