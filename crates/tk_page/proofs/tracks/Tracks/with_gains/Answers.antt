use Rattle.std.proofs.Common.{ℕ, List, [], ◌∷◌, get_or, slice_get, take, ap, sym, ◌∙◌, arith}
use Rattle.std.specs.Prelude.{fold}
use Rattle.std.specs.Option.{option_map_or}
use Rattle.std.proofs.lemmas.List.{take_all}
use Rattle.std.proofs.lemmas.List.Sums.{fold-append}
use Rattle.tk_stream.proofs.SlotLemmas.{taken_more}
use Rattle.tk_page.specs.Kept.{with_gain_by}
use Rattle.tk_page.specs.declared.sample.Sample.{Sample}
use Rattle.tk_page.proofs.tracks.Tracks.with_gains.Goals as goal

pub loop-place-preserved : goal.loop-place-preserved
loop-place-preserved c =
    let tables = c.args.tables.now in
    let places : List ℕ = c.args.places.now in
    let i = c.loop-place.place-index in
    let at : ℕ = get_or places i 0 in
    let step : Sample → ℕ → Sample = λ (sum : Sample) (place : ℕ). option_map_or (with_gain_by c.args.moment tables c.args.self.now sum) (slice_get tables.tasks place) sum in
    c.with_gain_at-sum.ensures
    ∙ ap (λ (sum : Sample). step sum at) c.loop-place.invariant
    ∙ sym (ap (fold step c.args.total) (taken_more i places 0 c.loop-place-test.true) ∙ fold-append step c.args.total (take i places) (at ∷ []))

pub returns : goal.returns
returns c =
    let tables = c.args.tables.now in
    let step : Sample → ℕ → Sample = λ (sum : Sample) (place : ℕ). option_map_or (with_gain_by c.args.moment tables c.args.self.now sum) (slice_get tables.tasks place) sum in
    c.loop-place.invariant ∙ ap (fold step c.args.total) (take_all c.loop-place.place-index c.args.places.now (omega (arith, c.loop-place-test.false)))
