use Rattle.std.proofs.Common.{◌≡◌, ℕ, List, [], ◌∷◌, ◌++◌, get_or, ap, sym, ◌∙◌, slice_get, take, arith}
use Rattle.std.specs.Prelude.{fold}
use Rattle.std.specs.Option.{option_map_or}
use Rattle.std.proofs.lemmas.List.{take_all}
use Rattle.std.proofs.lemmas.List.Sums.{fold-append}
use Rattle.tk_stream.proofs.SlotLemmas.{taken_more}
use Rattle.tk_odd.specs.Inner.{shown}
use Rattle.tk_odd.specs.Members.{Member, with_task}
use Rattle.tk_odd.proofs.members.add_places.Goals as goal

pub loop-place-preserved : goal.loop-place-preserved
loop-place-preserved c = λ before k.
    let tables = c.args.tables.now in
    let places : List ℕ = c.args.places.now in
    let i = c.loop-place.place-index in
    let place = get_or places i 0 in
    let old = shown c.args.members.now.entries in
    let step = λ (ms : List Member) (n : ℕ). option_map_or (with_task before tables ms) (slice_get tables.tasks n) ms in
    c.in_ok-add_task_at.ensures before k
    ∙ ap (λ (ms : List Member). step ms place) (c.loop-place.invariant before k)
    ∙ sym (ap (λ (ps : List ℕ). fold step old ps) (taken_more i places 0 c.loop-place-test.true) ∙ fold-append step old (take i places) (place ∷ []))

pub returns : goal.returns
returns c = λ before k.
    let tables = c.args.tables.now in
    c.loop-place.invariant before k
    ∙ ap (fold (λ (ms : List Member) (place : ℕ). option_map_or (with_task before tables ms) (slice_get tables.tasks place) ms) (shown c.args.members.now.entries))
    (take_all c.loop-place.place-index c.args.places.now (omega (arith, c.loop-place-test.false)))
