use Rattle.std.proofs.Common.{ap, ◌∙◌}
use Rattle.tk_aggregator.specs.Aggregates.{Collects}
use Rattle.tk_aggregator.proofs.FollowLemmas.{collects_follows, collects_stays, runs_out_follows, gathers_stays}
use Rattle.tk_aggregator.proofs.GatherLemmas.{gathers_took, collects_took}
use Rattle.tk_aggregator.proofs.HoldLemmas.{collects_kept}
use Rattle.tk_aggregator.proofs.LaterLemmas.{gathers_later, collects_later}
use Rattle.tk_aggregator.proofs.aggregator.Aggregator.collect.Given.{Over}
use Rattle.tk_aggregator.proofs.aggregator.Aggregator.collect.Goals as goal

collected : (g : Over) (c : goal.After-take_totals g) → Collects c.args.self.now c.args.taker.now c.args.limit c.in_ok-count.count c.take_totals.new.self c.take_totals.new.taker
collected g c =
    record {
      gathered = c.gather.new.self;
      taker = c.gather.new.taker;
      gathering = c.in_ok-count.ensures.ok;
      totals = c.take_totals.ensures.totals;
      now = c.take_totals.ensures.now;
    }

pub returns-in_err-count-clause-follows : goal.returns-in_err-count-clause-follows
returns-in_err-count-clause-follows g c = runs_out_follows c.args.self.now c.args.taker.now c.args.limit c.gather.new.self c.gather.new.taker c.in_err-count.ensures.err.1

pub returns-in_err-count-clause-stays : goal.returns-in_err-count-clause-stays
returns-in_err-count-clause-stays g c =
    let r = c.in_err-count.ensures.err.1 in
    gathers_stays c.args.self.now c.args.taker.now r.taken c.gather.new.self c.gather.new.taker r.gathers

pub returns-clause-follows : goal.returns-clause-follows
returns-clause-follows g c = collects_follows c.args.self.now c.args.taker.now c.args.limit c.in_ok-count.count c.take_totals.new.self c.take_totals.new.taker (collected g c)

pub returns-clause-stays : goal.returns-clause-stays
returns-clause-stays g c = collects_stays c.args.self.now c.args.taker.now c.args.limit c.in_ok-count.count c.take_totals.new.self c.take_totals.new.taker (collected g c)

pub returns-in_err-count-clause-later : goal.returns-in_err-count-clause-later
returns-in_err-count-clause-later g c =
    let r = c.in_err-count.ensures.err.1 in
    gathers_later c.args.self.now c.args.taker.now r.taken c.gather.new.self c.gather.new.taker r.gathers

pub returns-clause-later : goal.returns-clause-later
returns-clause-later g c = collects_later c.args.self.now c.args.taker.now c.args.limit c.in_ok-count.count c.take_totals.new.self c.take_totals.new.taker (collected g c)

pub returns-in_err-count-clause-took : goal.returns-in_err-count-clause-took
returns-in_err-count-clause-took g c =
    let r = c.in_err-count.ensures.err.1 in
    gathers_took c.args.self.now c.args.taker.now r.taken c.gather.new.self c.gather.new.taker r.gathers

pub returns-clause-took : goal.returns-clause-took
returns-clause-took g c = collects_took c.args.self.now c.args.taker.now c.args.limit c.in_ok-count.count c.take_totals.new.self c.take_totals.new.taker (collected g c)

pub returns-clause-kept : goal.returns-clause-kept
returns-clause-kept g c f finished below = collects_kept c.args.self.now c.args.taker.now c.args.limit c.in_ok-count.count c.take_totals.new.self c.take_totals.new.taker (collected g c) f finished below
