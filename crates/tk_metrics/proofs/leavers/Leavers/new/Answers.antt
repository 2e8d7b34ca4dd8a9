use Rattle.std.proofs.Common.{refl, sym, true≢false}
use Rattle.tk_metrics.proofs.leavers.Leavers.new.Goals as goal

pub returns : goal.returns
returns c = record {
  notes = record {
    told = refl;
    keys = c.none.ensures;
    held = c.none-2.ensures;
    times = record { polls = c.none-3.ensures.polls; waits = c.none-3.ensures.waits };
    resources = c.new.ensures;
    counts = c.new-2.ensures;
    latest = λ id there. absurd (true≢false (sym there));
  };
  lines = refl;
}
