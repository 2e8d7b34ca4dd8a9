use Rattle.std.proofs.Common.{ap, sym, ◌∙◌, ◌++◌, slice_get, arith, map}
use Rattle.std.specs.List.{filter_map}
use Rattle.std.specs.Option.{option_map_or, option_to_list}
use Rattle.std.proofs.lemmas.List.{take_all}
use Rattle.tk_odd.specs.Findings.{of_place, placed}
use Rattle.tk_odd.proofs.ListLemmas.{found_more}
use Rattle.tk_odd.proofs.list.add_places.Goals as goal

pub loop-i-preserved : goal.loop-i-preserved
loop-i-preserved c =
    let one = of_place c.args.long c.args.last (map (λ v. v.items) c.args.running.now) in
    let held = c.args.held.now in
    let i = c.loop-i.i in
    c.in_ok-add_place_at.ensures
    ∙ ap (λ s. option_map_or (λ p. s ++ option_to_list (one p)) (slice_get held i) s) c.loop-i.invariant
    ∙ sym (found_more one held i (map placed c.args.list.now.items))

pub returns : goal.returns
returns c =
    let one = of_place c.args.long c.args.last (map (λ v. v.items) c.args.running.now) in
    c.loop-i.invariant ∙ ap (λ xs. map placed c.args.list.now.items ++ filter_map one xs) (take_all c.loop-i.i c.args.held.now (omega arith))
