use Rattle.std.proofs.Common.{List, ap, sym, ◌∙◌, take, subst}
use Rattle.std.specs.Prelude.{IsSome, is_some}
use Rattle.tk_stream.specs.Tables.{item_with, put_item}
use Rattle.tk_stream.specs.Times.{TaskTimes, times_id}
use Rattle.tk_client.proofs.KeyedLemmas.{told_next, none_told, still-there, all-at}
use Rattle.tk_client.proofs.times.tell.Goals as goal

pub loop-one-init : goal.loop-one-init
loop-one-init c = sym (none_told times_id c.args.times.now)

pub replace-requires : goal.replace-requires
replace-requires c =
    let times : List TaskTimes = c.args.times.now in
    let item : TaskTimes = c.one-item.result in
    subst (λ (ts : List TaskTimes). IsSome (item_with times_id item.0 ts)) (sym c.loop-one.invariant)
    (still-there times_id item.0 times (take c.loop-one.one-index c.args.told.now)
    (all-at (λ (x : TaskTimes). is_some (item_with times_id x.0 times)) c.args.told.now c.loop-one.one-index item c.requires.there c.loop-one-test.true c.one-item.is))

pub loop-one-preserved : goal.loop-one-preserved
loop-one-preserved c =
    let times : List TaskTimes = c.args.times.now in
    let item : TaskTimes = c.one-item.result in
    c.replace.ensures ∙ ap (put_item times_id item) c.loop-one.invariant
    ∙ told_next times_id times c.args.told.now c.loop-one.one-index item c.len.ensures.distinct c.requires.once c.loop-one-test.true c.one-item.is
