use Rattle.std.proofs.Common.{◌≡◌, ℕ, List, [], ◌∷◌, get_or, ap, sym, ◌∙◌, slice_get, take, arith}
use Rattle.std.specs.Prelude.{fold}
use Rattle.std.specs.Option.{option_map_or}
use Rattle.std.proofs.lemmas.List.{take_all}
use Rattle.std.proofs.lemmas.List.Sums.{fold-append}
use Rattle.tk_stream.proofs.SlotLemmas.{taken_more}
use Rattle.tk_odd.specs.Keeping.{with_waiter}
use Rattle.tk_odd.specs.declared.kept.Kept.{Kept}
use Rattle.tk_odd.proofs.waiters.waiting_at.Goals as goal

pub loop-place-preserved : goal.loop-place-preserved
loop-place-preserved c =
    let tasks = c.args.tables.now.tasks in
    let places : List ℕ = c.args.places.now in
    let i = c.loop-place.place-index in
    let place = get_or places i 0 in
    let step = λ (rows : List (ℕ × Kept)) (n : ℕ). option_map_or (with_waiter rows) (slice_get tasks n) rows in
    c.in_ok-add_waiter_at.ensures
    ∙ ap (λ (rows : List (ℕ × Kept)). step rows place) c.loop-place.invariant
    ∙ sym (ap (λ (ps : List ℕ). fold step [] ps) (taken_more i places 0 c.loop-place-test.true) ∙ fold-append step [] (take i places) (place ∷ []))

pub returns : goal.returns
returns c =
    let tasks = c.args.tables.now.tasks in
    c.loop-place.invariant
    ∙ ap (fold (λ (rows : List (ℕ × Kept)) (place : ℕ). option_map_or (with_waiter rows) (slice_get tasks place) rows) []) (take_all c.loop-place.place-index c.args.places.now (omega (arith, c.loop-place-test.false)))
