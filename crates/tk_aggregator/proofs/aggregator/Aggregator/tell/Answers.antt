use Rattle.std.proofs.Common.{◌≡◌, ◌+◌, ◌^◌, ◌<◌, false, sym, ap, ◌∙◌, subst}
use Rattle.std.specs.Prelude.{unwrap_or}
use Rattle.tk_stream.specs.Lines.{none_gone}
use Rattle.tk_aggregator.specs.Aggregates.{Aggregating, without, having_told}
use Rattle.tk_aggregator.proofs.LeaveLemmas.{told_of, less_room, told_stands, told_is, times_left}
use Rattle.tk_aggregator.proofs.StandingLemmas.{whole}
use Rattle.tk_aggregator.specs.Timing.{TimingView}
use Rattle.tk_aggregator.proofs.aggregator.Aggregator.tell.Goals as goal

pub tell-requires : goal.tell-requires
tell-requires c =
    let a = c.self.inside in
    let gone = unwrap_or c.args.leaving.now none_gone in
    let is = told_of a.tables gone c.args.now c.remove.new.tables c.dropped-dropped.result c.set_totals.new.self c.remove.ensures.tables c.dropped-dropped.ensures c.set_totals.ensures in
    less_room a.tables a.told a.tasks.items a.resources.items a.ops.items a.held a.last c.self.invariant.0 gone c.args.now c.set_totals.new.self is

pub invariant_of-self : goal.invariant_of-self
invariant_of-self c =
    let a = c.self.inside in
    let gone = unwrap_or c.args.leaving.now none_gone in
    let is = told_of a.tables gone c.args.now c.remove.new.tables c.dropped-dropped.result c.set_totals.new.self c.remove.ensures.tables c.dropped-dropped.ensures c.set_totals.ensures in (
      told_stands a.tables a.told a.tasks.items a.resources.items a.ops.items a.held a.last c.self.invariant.0 gone c.args.now c.set_totals.new.self is
          c.remove.new.tasks.items c.remove.new.resources.items c.remove.new.ops.items c.remove.ensures.tasks c.remove.ensures.resources c.remove.ensures.ops c.tell.new.self
          c.tell.ensures.fits c.tell.ensures.room (subst (λ (x : Aggregating). x.last < 2 ^ 63) (sym c.self.view_is) c.requires),
      times_left a.tables gone c.args.now c.set_totals.new.self is a.timing c.tell-2.new.self c.tell-2.ensures c.self.invariant.1,
    )

pub returns : goal.returns
returns c =
    let a = c.self.inside in
    let gone = unwrap_or c.args.leaving.now none_gone in
    let is = told_of a.tables gone c.args.now c.remove.new.tables c.dropped-dropped.result c.set_totals.new.self c.remove.ensures.tables c.dropped-dropped.ensures c.set_totals.ensures in
    subst (λ (old : Aggregating). whole c.set_totals.new.self c.tell.new.self c.remove.new.tasks.items c.remove.new.resources.items c.remove.new.ops.items a.held (a.last + 1) false a.retention c.tell-2.new.self ≡ having_told (without old gone) c.args.now) c.self.view_is
    (ap (λ (t : TimingView). whole c.set_totals.new.self c.tell.new.self c.remove.new.tasks.items c.remove.new.resources.items c.remove.new.ops.items a.held (a.last + 1) false a.retention t) c.tell-2.ensures
    ∙ told_is a.tables a.told a.tasks.items a.resources.items a.ops.items a.held a.last c.self.invariant.0 gone c.args.now c.set_totals.new.self is
    c.remove.new.tasks.items c.remove.new.resources.items c.remove.new.ops.items c.remove.ensures.tasks c.remove.ensures.resources c.remove.ensures.ops c.tell.new.self
    c.tell.ensures.told a.broken a.retention a.timing)
