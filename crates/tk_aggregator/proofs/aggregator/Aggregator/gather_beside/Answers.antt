use Rattle.std.proofs.Common.{◌≡◌, ◌+◌, ◌<◌, [], ◌∷◌, ◌++◌, Some, refl, ap, sym, ◌∙◌, subst, arith}
use Rattle.std.proofs.lemmas.List.{length-append}
use Rattle.tk_events.specs.declared.event.Event.{Event}
use Rattle.tk_events.specs.Handles.{Recording, Taking}
use Rattle.tk_aggregator.specs.Aggregates.{Aggregating, Gathers}
use Rattle.tk_aggregator.proofs.GatherLemmas.{none_came, gathers_more, none_held, gathers_held}
use Rattle.tk_aggregator.proofs.StandingLemmas.{whole}
use Rattle.tk_aggregator.proofs.aggregator.Aggregator.gather_beside.Goals as goal

pub loop-count-init : goal.loop-count-init
loop-count-init g c = ([], none_came c.args.self.now c.args.taker.now, refl, λ lt. absurd (omega (arith, lt)), λ zero. (refl, refl), refl)

pub returns-in-Err-clause-err : goal.returns-in-Err-clause-err
returns-in-Err-clause-err g c =
    let a = c.self.inside in
    let inv = c.loop-count.invariant in
    let event = c.in-Some.event in
    let held : Gathers c.args.self.now c.args.taker.now inv.0 (record c.next_beside.new.self { held = Some event }) c.next_beside.new.taker =
    gathers_held c.args.self.now c.args.taker.now inv.0 c.loop-count.self c.loop-count.taker event c.next_beside.new.self c.next_beside.new.taker inv.1 c.in-Some.ensures.some in
    let same : whole a.tables a.told a.tasks.items a.resources.items a.ops.items a.held a.last a.broken a.retention a.timing ≡ c.next_beside.new.self = c.self.view_is ∙ c.in-Err.ensures.err in (
      refl,
      record {
        taken = inv.0;
        within = subst (λ n. n < c.args.limit) (sym inv.2) c.loop-count-test.true;
        gathers =
            subst (λ (x : Aggregating). Gathers c.args.self.now c.args.taker.now inv.0 (record x { held = Some c.in-Err.event }) c.next_beside.new.taker) (sym same)
            (subst (λ (e : Event). Gathers c.args.self.now c.args.taker.now inv.0 (record c.next_beside.new.self { held = Some e }) c.next_beside.new.taker) (sym c.in-Err.ensures.returned) held);
        held = c.in-Err.event;
        is_held = refl;
      },
    )

pub loop-count-preserved : goal.loop-count-preserved
loop-count-preserved g c =
    let inv = c.loop-count.invariant in
    let event = c.in-Some.event in (
      inv.0 ++ event ∷ [],
      gathers_more c.args.self.now c.args.taker.now inv.0 c.loop-count.self c.loop-count.taker event c.next_beside.new.self c.next_beside.new.taker inv.1 c.in-Some.ensures.some c.take_in.new.self c.in_default-take_in.ensures.ok,
      length-append inv.0 (event ∷ []) ∙ ap (λ n. n + 1) inv.2,
      λ lt. none_held c.args.self.now c.args.taker.now inv.0 c.loop-count.self c.loop-count.taker event c.next_beside.new.self c.next_beside.new.taker inv.1 c.in-Some.ensures.some c.take_in.new.self c.in_default-take_in.ensures.ok,
      λ zero. absurd (omega (arith, zero)),
      c.next_beside.ensures.same ∙ ap (λ (r : Recording). record r { gone = c.next_beside.new.recorder.gone }) inv.5,
    )

-- the recorder is of the console of the taker so far, which isn't finished
pub next_beside-requires-clause-console : goal.next_beside-requires-clause-console
next_beside-requires-clause-console g c = let inv = c.loop-count.invariant in ap (λ (r : Recording). r.console) inv.5 ∙ c.requires.console ∙ sym (ap (λ (t : Taking). t.console) inv.1.taker)

pub next_beside-requires-clause-recorders : goal.next_beside-requires-clause-recorders
next_beside-requires-clause-recorders g c = let inv = c.loop-count.invariant in ap (λ (r : Recording). r.recorders) inv.5 ∙ c.requires.recorders ∙ sym (ap (λ (t : Taking). t.recorders) inv.1.taker)

pub next_beside-requires-clause-unfinished : goal.next_beside-requires-clause-unfinished
next_beside-requires-clause-unfinished g c = let inv = c.loop-count.invariant in ap (λ (t : Taking). t.finished) inv.1.taker ∙ c.requires.unfinished
