use Rattle.std.proofs.Common.{rules, ◌≡◌, ◌+◌, [], length, refl, ap, sym, ◌∙◌, subst, arith}
use Rattle.std.specs.Prelude.{map}
use Rattle.tk_events.specs.Handles.{Recording, Taking}
use Rattle.tk_aggregator.specs.Aggregates.{Aggregating}
use Rattle.tk_live.specs.Runs.{offer_content}
use Rattle.tk_live.proofs.Beginning.{tells_nothing, has_told_nothing, holds_nothing, links_nothing}
use Rattle.tk_live.proofs.interpreter.Interpreter.new.Goals as goal

pub returns : goal.returns
returns c =
    let a = c.in-Ok-aggregator_for.ensures in
    record {
      came = tells_nothing c.args.settings;
      rise = (0, refl);
      offered = search rules;
      takes = search rules;
      taken = ap (λ (t : Taking). map offer_content t.taken) c.in-Ok.ensures.taker;
      gone = search rules;
      has_told = has_told_nothing c.args.settings _ a;
      timed = search rules;
      holds = holds_nothing _ _ _ _ c.new.ensures.items c.new-2.ensures.items c.new-3.ensures.items c.new-4.ensures.items;
      linked = links_nothing _ _ _ _ c.args.settings _ (search rules) a;
      polled = refl;
      capacity_said = refl;
      retention_said = refl;
      times_said = refl;
      waits_said = refl;
      begun = refl;
      times_is = refl;
    }
