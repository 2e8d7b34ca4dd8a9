use Rattle.std.proofs.Common.{◌≡◌, ◌+◌, ◌++◌, List, ap, sym, ◌∙◌, take, subst}
use Rattle.std.specs.Prelude.{filter}
use Rattle.tk_stream.specs.Lines.{is_new}
use Rattle.tk_stream.specs.Times.{TaskTimes, times_id}
use Rattle.tk_client.specs.Applying.{Begins, begins_same, key_added}
use Rattle.tk_client.proofs.KeyedLemmas.{grows-next, none_added}
use Rattle.tk_client.proofs.TimesLemmas.{begins-append}
use Rattle.tk_client.proofs.times.add.Goals as goal

pub loop-one-init : goal.loop-one-init
loop-one-init c = record { added = none_added times_id c.args.times.now; grown = begins_same c.args.times.now }

pub loop-one-preserved : goal.loop-one-preserved
loop-one-preserved c =
    let times : List TaskTimes = c.args.times.now in
    let item : TaskTimes = c.one-item.result in
    let new : List TaskTimes = filter (is_new times_id times) (take (c.loop-one.one-index + 1) c.args.told.now) in
    let added : c.add_one.new.times ≡ times ++ new =
    c.in_ok-add_one.ensures.ok ∙ ap (key_added times_id item) c.loop-one.invariant.added
    ∙ grows-next times_id times c.args.told.now c.loop-one.one-index item c.requires c.loop-one-test.true c.one-item.is in
    record { added = added; grown = subst (Begins times) (sym added) (begins-append times new) }
