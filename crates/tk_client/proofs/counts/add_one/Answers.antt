use Rattle.std.proofs.Common.{◌≡◌, List, true, false, ap, sym, ◌∙◌, subst}
use Rattle.std.specs.Prelude.{is_some, OnOk}
use Rattle.tk_stream.specs.Tables.{TablesView, PollCounts, counts_id, item_with}
use Rattle.tk_client.proofs.IdLemmas.{place-has}
use Rattle.tk_client.proofs.KeyedLemmas.{added-old, added-new}
use Rattle.tk_client.proofs.counts.add_one.Goals as goal

pub returns-then-is_some-clause-ok : goal.returns-then-is_some-clause-ok
returns-then-is_some-clause-ok c =
    let tables : TablesView = c.args.tables.now in
    let item : PollCounts = (c.args.id, c.args.ready, c.args.pending) in
    let there : is_some (item_with counts_id item.0 tables.counts) ≡ true =
    sym (place-has counts_id item.0 tables.counts) ∙ ap is_some (sym c.counts_place.ensures) ∙ sym c.is_some.ensures ∙ c.if-is_some.true in
    ap (λ (cs : List PollCounts). record tables { counts = cs }) (added-old counts_id item tables.counts there)

pub returns-clause-ok : goal.returns-clause-ok
returns-clause-ok c =
    let tables : TablesView = c.args.tables.now in
    let item : PollCounts = (c.args.id, c.args.ready, c.args.pending) in
    let away : is_some (item_with counts_id item.0 tables.counts) ≡ false =
    sym (place-has counts_id item.0 tables.counts) ∙ ap is_some (sym c.counts_place.ensures) ∙ sym c.is_some.ensures ∙ c.if-is_some.false in
    subst (λ t. OnOk c.set_counts.result (c.set_counts.new.self ≡ t)) (ap (λ (cs : List PollCounts). record tables { counts = cs }) (added-new counts_id item tables.counts away)) c.set_counts.ensures.ok
