use Rattle.std.proofs.Common.{◌≤◌, ◌∙◌, ap, length, slice_get, Some, arith}
use Rattle.std.specs.Option.{option_and_then, option_map_or}
use Rattle.std.proofs.lemmas.List.{take_all}
use Rattle.tk_odd.specs.declared.held.Held.{Held}
use Rattle.tk_frame.specs.Places.{held_of}
use Rattle.tk_frame.proofs.PlaceLemmas.{held_by, held_more}
use Rattle.tk_frame.proofs.places.held_of.Goals as goal

pub loop-i-preserved : goal.loop-i-preserved
loop-i-preserved c =
    let held = c.args.held.now in
    let key = c.args.key.now in
    let i = c.loop-i.i in
    c.held_with-found.ensures
    ∙ ap (λ o. option_map_or (λ (h : Held). Some h) o (option_and_then (held_by key) (slice_get held i))) c.loop-i.invariant
    ∙ held_more key held i

pub returns : goal.returns
returns c =
    let count = c.len-i-end.ensures in
    let past = c.loop-i-test.false in
    let all : length c.args.held.now ≤ c.loop-i.i = omega arith in
    c.loop-i.invariant ∙ ap (held_of c.args.key.now) (take_all c.loop-i.i c.args.held.now all)
