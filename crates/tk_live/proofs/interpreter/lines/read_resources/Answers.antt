use Rattle.std.proofs.Common.{◌≡◌, ℕ, ◌+◌, List, length, Some, refl, sym, ap, ◌∙◌, subst, arith}
use Rattle.std.specs.Prelude.{slice_get}
use Rattle.tk_stream.specs.Tables.{TablesView, resource_id}
use Rattle.tk_stream.specs.declared.tables.resource.Resource.{Resource}
use Rattle.tk_live.specs.Read.{HasNumber, AreResourcesRead}
use Rattle.tk_live.proofs.Places.{get_read, within}
use Rattle.tk_live.proofs.Reading.{no_resource_read, next_resource, resource_there, resource_may_read, one_resource_more}
use Rattle.tk_live.proofs.interpreter.lines.read_resources.Goals as goal

pub loop-i-init : goal.loop-i-init
loop-i-init g c = (no_resource_read c.args.aggregator.now c.args.resources.now.items c.requires.linked, omega arith)

pub place_of-place-requires : goal.place_of-place-requires
place_of-place-requires g c =
    let i = c.loop-i.i in
    let first = c.args.aggregator.now in
    let a = c.loop-i.aggregator in
    let xs = c.args.resources.now.items in
    let ys = c.loop-i.resources.items in
    let read = c.loop-i.invariant.0 in
    subst (λ (ts : List Resource). (place : ℕ) × HasNumber resource_id ts i (place + 1)) (sym (ap (λ (t : TablesView). t.resources) (c.behind-aggregator-in-loop-i.view_is ∙ c.tables-in-loop-i.ensures.is)))
    (next_resource i first a xs ys read c.tables-in-loop-i.ensures.sound (omega (arith, c.loop-i-test.true, c.len-i-end.ensures.count, ap (λ (t : TablesView). length t.resources) (c.behind-aggregator.view_is ∙ c.tables.ensures.is))))

pub index_mut-requires : goal.index_mut-requires
index_mut-requires g c =
    let i = c.loop-i.i in
    let first = c.args.aggregator.now in
    let a = c.loop-i.aggregator in
    let xs = c.args.resources.now.items in
    let ys = c.loop-i.resources.items in
    let read = c.loop-i.invariant.0 in
    let k = c.place_of-place.result in
    let next : HasNumber resource_id a.tables.resources i (k + 1) = subst (λ (ts : List Resource). HasNumber resource_id ts i (k + 1)) (ap (λ (t : TablesView). t.resources) (c.behind-aggregator-in-loop-i.view_is ∙ c.tables-in-loop-i.ensures.is)) c.place_of-place.ensures in
    let there = resource_there i first a xs ys read c.tables-in-loop-i.ensures.sound k next in
    omega (arith, within ys k there.0 there.1)

pub read_resource_beside-requires : goal.read_resource_beside-requires
read_resource_beside-requires g c =
    let i = c.loop-i.i in
    let first = c.args.aggregator.now in
    let a = c.loop-i.aggregator in
    let xs = c.args.resources.now.items in
    let ys = c.loop-i.resources.items in
    let read = c.loop-i.invariant.0 in
    let k = c.place_of-place.result in
    let next : HasNumber resource_id a.tables.resources i (k + 1) = subst (λ (ts : List Resource). HasNumber resource_id ts i (k + 1)) (ap (λ (t : TablesView). t.resources) (c.behind-aggregator-in-loop-i.view_is ∙ c.tables-in-loop-i.ensures.is)) c.place_of-place.ensures in
    let there = resource_there i first a xs ys read c.tables-in-loop-i.ensures.sound k next in
    let x = c.index_mut.result.now in
    let at : slice_get ys k ≡ Some x = get_read ys k x x (within ys k there.0 there.1) c.index_mut.ensures.value in
    resource_may_read i first a xs ys read k x at c.requires.known.0 c.requires.known.1

pub loop-i-preserved : goal.loop-i-preserved
loop-i-preserved g c =
    let i = c.loop-i.i in
    let first = c.args.aggregator.now in
    let a = c.loop-i.aggregator in
    let xs = c.args.resources.now.items in
    let ys = c.loop-i.resources.items in
    let read = c.loop-i.invariant.0 in
    let k = c.place_of-place.result in
    let next : HasNumber resource_id a.tables.resources i (k + 1) = subst (λ (ts : List Resource). HasNumber resource_id ts i (k + 1)) (ap (λ (t : TablesView). t.resources) (c.behind-aggregator-in-loop-i.view_is ∙ c.tables-in-loop-i.ensures.is)) c.place_of-place.ensures in
    let there = resource_there i first a xs ys read c.tables-in-loop-i.ensures.sound k next in
    let x = c.index_mut.result.now in
    let at : slice_get ys k ≡ Some x = get_read ys k x x (within ys k there.0 there.1) c.index_mut.ensures.value in
    let done = c.read_resource_beside in (
      one_resource_more i first a xs ys read k x at done.new.self (record x { callers = done.new.callers }) refl done.ensures.hand done.ensures.reads c.requires.known.0 c.requires.known.1 next c.tables-in-loop-i.ensures.sound.fit.distinct.resources _ refl,
      omega (arith, c.loop-i-test.true, c.len-i-end.ensures.count, ap (λ (t : TablesView). length t.resources) (c.behind-aggregator.view_is ∙ c.tables.ensures.is)),
    )

pub returns : goal.returns
returns g c =
    let all : c.loop-i.i ≡ length c.args.aggregator.now.tables.resources = omega (arith, c.loop-i-test.false, c.len-i-end.ensures.count, ap (λ (t : TablesView). length t.resources) (c.behind-aggregator.view_is ∙ c.tables.ensures.is), c.loop-i.invariant.1) in
    subst (λ (n : ℕ). AreResourcesRead n c.args.aggregator.now c.args.resources.now.items c.loop-i.aggregator c.loop-i.resources.items) all c.loop-i.invariant.0
