use Rattle.std.proofs.Common.{◌≡◌, ℕ, ◌+◌, List, length, Option, Some, None, refl, sym, ap, subst, arith}
use Rattle.std.specs.Prelude.{slice_get, IfSome}
use Rattle.tk_ledgers.specs.Times.{TimesSight}
use Rattle.tk_stream.specs.Times.{TaskTimes, times_id}
use Rattle.tk_aggregator.specs.Timing.{AreOfOwner}
use Rattle.tk_live.specs.Read.{HasNumber, AreTimesRead}
use Rattle.tk_live.specs.declared.items.TaskItem.{TaskItem}
use Rattle.tk_live.proofs.Places.{get_read, within}
use Rattle.tk_live.proofs.TimesRead.{no_times_read, next_histogram, its_task, owner_may_read, one_histogram_more}
use Rattle.tk_live.proofs.interpreter.lines.read_times.Goals as goal

pub loop-i-init : goal.loop-i-init
loop-i-init g c = (no_times_read c.args.aggregator.now c.args.tasks.now.items c.requires.linked, omega arith)

pub place_of-place-requires : goal.place_of-place-requires
place_of-place-requires g c =
    let i = c.loop-i.i in
    let first = c.args.aggregator.now in
    let a = c.loop-i.aggregator in
    let xs = c.args.tasks.now.items in
    let ys = c.loop-i.tasks.items in
    let read = c.loop-i.invariant.0 in
    subst (λ (ts : List TaskTimes). (place : ℕ) × HasNumber times_id ts i (place + 1)) (sym c.times-in-loop-i.ensures)
    (next_histogram i first a xs ys read c.tables.ensures.sound (omega (arith, c.loop-i-test.true, c.len-i-end.ensures.count, ap (λ (ts : List TaskTimes). length ts) c.times.ensures)))

pub index_mut-requires : goal.index_mut-requires
index_mut-requires g c =
    let i = c.loop-i.i in
    let first = c.args.aggregator.now in
    let a = c.loop-i.aggregator in
    let xs = c.args.tasks.now.items in
    let ys = c.loop-i.tasks.items in
    let read = c.loop-i.invariant.0 in
    let k = c.place_of-place.result in
    let next : HasNumber times_id a.timing.shown i (k + 1) = subst (λ (ts : List TaskTimes). HasNumber times_id ts i (k + 1)) c.times-in-loop-i.ensures c.place_of-place.ensures in
    let there = its_task i first a xs ys read c.tables.ensures.sound k next in
    omega (arith, within ys k there.0 there.1)

pub read_owned-requires : goal.read_owned-requires
read_owned-requires g c =
    let i = c.loop-i.i in
    let first = c.args.aggregator.now in
    let a = c.loop-i.aggregator in
    let xs = c.args.tasks.now.items in
    let ys = c.loop-i.tasks.items in
    let read = c.loop-i.invariant.0 in
    let k = c.place_of-place.result in
    let next : HasNumber times_id a.timing.shown i (k + 1) = subst (λ (ts : List TaskTimes). HasNumber times_id ts i (k + 1)) c.times-in-loop-i.ensures c.place_of-place.ensures in
    let there = its_task i first a xs ys read c.tables.ensures.sound k next in
    let x : TaskItem = c.index_mut.result.now in
    let at : slice_get ys k ≡ Some x = get_read ys k x x (within ys k there.0 there.1) c.index_mut.ensures.value in
    let may : (owner : TimesSight) → x.times ≡ Some owner → AreOfOwner owner a.timing.readers =
    λ owner has. owner_may_read i first a xs ys read k x at c.requires.known.0 c.requires.known.1 next c.tables.ensures.sound.times_fit.once owner has in
    by x.times may
  where
    by : (o : Option TimesSight) → ((owner : TimesSight) → o ≡ Some owner → AreOfOwner owner c.loop-i.aggregator.timing.readers) → IfSome o (λ owner. AreOfOwner owner c.loop-i.aggregator.timing.readers)
    by None may = tt
    by (Some owner) may = may owner refl

pub loop-i-preserved : goal.loop-i-preserved
loop-i-preserved g c =
    let i = c.loop-i.i in
    let first = c.args.aggregator.now in
    let a = c.loop-i.aggregator in
    let xs = c.args.tasks.now.items in
    let ys = c.loop-i.tasks.items in
    let read = c.loop-i.invariant.0 in
    let k = c.place_of-place.result in
    let next : HasNumber times_id a.timing.shown i (k + 1) = subst (λ (ts : List TaskTimes). HasNumber times_id ts i (k + 1)) c.times-in-loop-i.ensures c.place_of-place.ensures in
    let there = its_task i first a xs ys read c.tables.ensures.sound k next in
    let x : TaskItem = c.index_mut.result.now in
    let at : slice_get ys k ≡ Some x = get_read ys k x x (within ys k there.0 there.1) c.index_mut.ensures.value in
    let done = c.read_owned in (
      one_histogram_more i first a xs ys read k x at c.requires.known.0 c.requires.known.1 next c.tables.ensures.sound.times_fit.once done.new.aggregator done.new.times done.ensures _ refl,
      omega (arith, c.loop-i-test.true, c.len-i-end.ensures.count, ap (λ (ts : List TaskTimes). length ts) c.times.ensures),
    )

pub returns : goal.returns
returns g c =
    let all : c.loop-i.i ≡ length c.args.aggregator.now.timing.shown = omega (arith, c.loop-i-test.false, c.len-i-end.ensures.count, ap (λ (ts : List TaskTimes). length ts) c.times.ensures, c.loop-i.invariant.1) in
    subst (λ (n : ℕ). AreTimesRead n c.args.aggregator.now c.args.tasks.now.items c.loop-i.aggregator c.loop-i.tasks.items) all c.loop-i.invariant.0
