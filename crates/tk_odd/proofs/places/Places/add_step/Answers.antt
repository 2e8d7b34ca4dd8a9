use Rattle.std.proofs.Common.{◌≡◌, ap, sym, ◌∙◌, slice_get, arith, length, take}
use Rattle.std.specs.Option.{option_map_or}
use Rattle.std.specs.Prelude.{fold}
use Rattle.tk_odd.specs.Diagnosis.{with_one}
use Rattle.tk_odd.specs.Inner.{places_of, shown}
use Rattle.tk_odd.specs.Members.{looked_at}
use Rattle.tk_odd.proofs.LoopLemmas.{folded_more, taken_as_many}
use Rattle.tk_odd.proofs.places.Places.add_step.Goals as goal

pub loop-i-preserved : goal.loop-i-preserved
loop-i-preserved c =
    let step = c.args.step.now in
    let xs = shown c.args.members.now.entries in
    let i = c.loop-i.i in
    let one = with_one step.long c.args.free step.from step.to step.moved.now in
    c.in_ok-add_at.ensures
    ∙ ap (λ s. option_map_or (λ x. one s x) (slice_get xs i) s) c.loop-i.invariant
    ∙ sym (folded_more one (places_of c.args.self.now) xs i)

pub returns : goal.returns
returns c =
    let step = c.args.step.now in
    let xs = shown c.args.members.now.entries in
    let old = places_of c.args.self.now in
    let end : c.loop-i.i ≡ length step.moved.now = omega arith in
    c.loop-i.invariant
    ∙ ap (λ k. fold (with_one step.long c.args.free step.from step.to step.moved.now) old (take k xs)) (end ∙ ap length c.requires.moved)
    ∙ ap (fold (with_one step.long c.args.free step.from step.to step.moved.now) old) (taken_as_many (λ x. x.2) 2147483648 xs)
    ∙ ap (λ moved. fold (with_one step.long c.args.free step.from step.to moved) old (looked_at xs)) c.requires.moved
