use Rattle.std.proofs.Common.{◌≡◌, List, ℕ, false, subst, ap, sym, ◌∙◌}
use Rattle.std.specs.Prelude.{is_some, OnOk}
use Rattle.tk_stream.specs.Tables.{item_with}
use Rattle.tk_stream.specs.Times.{TaskTimes, times_id}
use Rattle.tk_client.proofs.KeyedLemmas.{added-new}
use Rattle.tk_client.proofs.TimesLemmas.{was_none}
use Rattle.tk_client.proofs.times.add_one.Goals as goal

pub returns-clause-ok : goal.returns-clause-ok
returns-clause-ok c =
    let times : List TaskTimes = c.args.times.now in
    let item : TaskTimes = c.args.told.now in
    let away : is_some (item_with times_id item.0 times) ≡ false =
    ap (λ (id : ℕ). is_some (item_with times_id id times)) (sym c.value.ensures.value) ∙ was_none (λ t. t.now) _ _ _ c.with_id.ensures c.is_some.ensures c.if-is_some.false in
    subst (λ (ts : List TaskTimes). OnOk c.put.result (c.put.new.self ≡ ts)) (added-new times_id item times away) c.put.ensures.ok
