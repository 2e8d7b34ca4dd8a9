use Rattle.std.proofs.Common.{ap, sym, ◌∙◌}
use Rattle.tk_events.specs.Handles.{Recording, Taking, dropped_by}
use Rattle.tk_aggregator.specs.Beside.{CollectsBeside}
use Rattle.tk_aggregator.proofs.CollectLemmas.{collected_later, collected_stays, collected_took}
use Rattle.tk_aggregator.proofs.FollowLemmas.{gathers_stays}
use Rattle.tk_aggregator.proofs.GatherLemmas.{gathers_took}
use Rattle.tk_aggregator.proofs.LaterLemmas.{gathers_later}
use Rattle.tk_aggregator.proofs.aggregator.Aggregator.collect_beside.Given.{Over}
use Rattle.tk_aggregator.proofs.aggregator.Aggregator.collect_beside.Goals as goal

collected : (g : Over) (c : goal.After-take_totals_beside g) → CollectsBeside c.args.recorder.now c.args.self.now c.args.taker.now c.args.limit c.in_ok-count.count c.take_totals_beside.new.self c.take_totals_beside.new.taker
collected g c =
    record {
      gathered = c.gather_beside.new.self;
      taker = c.gather_beside.new.taker;
      gathering = c.in_ok-count.ensures.ok;
      totals = c.take_totals_beside.ensures.totals;
      exact = λ one. c.take_totals_beside.ensures.exact (ap (λ (t : Taking). t.recorders) c.in_ok-count.ensures.ok.gathers.taker ∙ one)
          ∙ ap (λ (r : Recording). dropped_by r) c.gather_beside.ensures.same;
      now = c.take_totals_beside.ensures.now;
    }

pub returns-clause-ok : goal.returns-clause-ok
returns-clause-ok g c = collected g c

pub returns-in_err-count-clause-stays : goal.returns-in_err-count-clause-stays
returns-in_err-count-clause-stays g c =
    let r = c.in_err-count.ensures.err.1 in
    gathers_stays c.args.self.now c.args.taker.now r.taken c.gather_beside.new.self c.gather_beside.new.taker r.gathers

pub returns-clause-stays : goal.returns-clause-stays
returns-clause-stays g c = collected_stays c.args.recorder.now c.args.self.now c.args.taker.now c.args.limit c.in_ok-count.count c.take_totals_beside.new.self c.take_totals_beside.new.taker (collected g c)

pub returns-in_err-count-clause-later : goal.returns-in_err-count-clause-later
returns-in_err-count-clause-later g c =
    let r = c.in_err-count.ensures.err.1 in
    gathers_later c.args.self.now c.args.taker.now r.taken c.gather_beside.new.self c.gather_beside.new.taker r.gathers

pub returns-clause-later : goal.returns-clause-later
returns-clause-later g c = collected_later c.args.recorder.now c.args.self.now c.args.taker.now c.args.limit c.in_ok-count.count c.take_totals_beside.new.self c.take_totals_beside.new.taker (collected g c)

pub returns-in_err-count-clause-took : goal.returns-in_err-count-clause-took
returns-in_err-count-clause-took g c =
    let r = c.in_err-count.ensures.err.1 in
    gathers_took c.args.self.now c.args.taker.now r.taken c.gather_beside.new.self c.gather_beside.new.taker r.gathers

pub returns-clause-took : goal.returns-clause-took
returns-clause-took g c = collected_took c.args.recorder.now c.args.self.now c.args.taker.now c.args.limit c.in_ok-count.count c.take_totals_beside.new.self c.take_totals_beside.new.taker (collected g c)

-- the recorder is of the console of the taker then, which isn't finished
pub take_totals_beside-requires-clause-console : goal.take_totals_beside-requires-clause-console
take_totals_beside-requires-clause-console g c =
    ap (λ (r : Recording). r.console) c.gather_beside.ensures.same ∙ c.requires.console ∙ sym (ap (λ (t : Taking). t.console) c.in_ok-count.ensures.ok.gathers.taker)

pub take_totals_beside-requires-clause-recorders : goal.take_totals_beside-requires-clause-recorders
take_totals_beside-requires-clause-recorders g c =
    ap (λ (r : Recording). r.recorders) c.gather_beside.ensures.same ∙ c.requires.recorders ∙ sym (ap (λ (t : Taking). t.recorders) c.in_ok-count.ensures.ok.gathers.taker)

pub take_totals_beside-requires-clause-unfinished : goal.take_totals_beside-requires-clause-unfinished
take_totals_beside-requires-clause-unfinished g c = ap (λ (t : Taking). t.finished) c.in_ok-count.ensures.ok.gathers.taker ∙ c.requires.unfinished
