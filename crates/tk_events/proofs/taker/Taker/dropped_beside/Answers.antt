use Rattle.std.proofs.Common.{◌≡◌, ℕ, ap, sym, ◌∙◌}
use Rattle.crossbeam_queue.specs.Passes.{view}
use Rattle.atomic_table.specs.Table.{Me}
use Rattle.tk_events.specs.declared.counts.view.View.{View as Count}
use Rattle.tk_events.specs.Handles.{Recording, Taking}
use Rattle.tk_events.proofs.taker.Taker.dropped_beside.Goals as goal

pub invariant_of-recorder : goal.invariant_of-recorder
invariant_of-recorder c =
    let was = c.recorder.invariant in
    let back = c.totals_lent.ensures.back in
    let same : (view c.recorder.inside.pass).recorders ≡ (view c.self.inside.pass).recorders =
    ap (λ (r : Recording). r.recorders) c.recorder.view_is ∙ (c.requires.recorders ∙ sym (ap (λ (t : Taking). t.recorders) c.self.view_is)) in
    record {
      own = was.own;
      role = was.role;
      ids_are = was.ids_are;
      low = was.low;
      high = was.high;
      made_is = was.made_is;
      below = was.below;
      refused_below = was.refused_below;
      own_ids = was.own_ids;
      room = was.room;
      small = was.small;
      adding = record {
        own = c.totals_lent.ensures.own_back ∙ was.adding.own;
        words = was.adding.words;
        few = was.adding.few;
        role = ap (λ (m : Me ℕ Count). m.0.role) back;
        adders = ap (λ (m : Me ℕ Count). m.0.adders) back ∙ (c.self.invariant.reading.adders ∙ sym same);
        number = ap (λ (m : Me ℕ Count). m.0.number) back ∙ was.adding.number;
        counted = ap (λ (m : Me ℕ Count). m.0.counts) back ∙ was.adding.counted;
        home = ap (λ (m : Me ℕ Count). m.1) back;
      };
    }
