use Rattle.std.proofs.Common.{◌≡◌, ap, sym, ◌∙◌, slice_get, arith, length, take}
use Rattle.std.specs.Option.{option_map_or}
use Rattle.std.specs.Prelude.{fold}
use Rattle.tk_odd.specs.Victims.{with_victim}
use Rattle.tk_odd.specs.Inner.{shown}
use Rattle.tk_odd.proofs.LoopLemmas.{folded_more, taken_as_many}
use Rattle.tk_odd.proofs.victims.add_victims.Goals as goal

pub loop-i-preserved : goal.loop-i-preserved
loop-i-preserved c =
    let step = c.args.step.now in
    let xs = shown c.args.members.now.entries in
    let i = c.loop-i.i in
    let one = with_victim step.to step.moved.now (c.args.id, c.args.member.now.place.items, c.args.member.now.moved) in
    c.in_ok-add_victim_at.ensures
    ∙ ap (λ s. option_map_or (λ x. one s x) (slice_get xs i) s) c.loop-i.invariant
    ∙ sym (folded_more one c.args.pairs.now xs i)

pub returns : goal.returns
returns c =
    let step = c.args.step.now in
    let xs = shown c.args.members.now.entries in
    let one = with_victim step.to step.moved.now (c.args.id, c.args.member.now.place.items, c.args.member.now.moved) in
    let end : c.loop-i.i ≡ length step.moved.now = omega arith in
    c.loop-i.invariant
    ∙ ap (λ k. fold one c.args.pairs.now (take k xs)) (end ∙ ap length c.requires.moved)
    ∙ ap (fold one c.args.pairs.now) (taken_as_many (λ x. x.2) 2147483648 xs)
