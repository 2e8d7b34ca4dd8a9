use Rattle.std.proofs.Common.{◌+◌, ◌≤◌, ap, ◌∙◌, arith, length, slice_get}
use Rattle.std.specs.Option.{option_map_or}
use Rattle.std.proofs.lemmas.List.{take_all}
use Rattle.tk_core.specs.Lists.{capped}
use Rattle.tk_page.specs.Changed.{waited_in, waited_of}
use Rattle.tk_page.proofs.ChangedLemmas.{fold_at}
use Rattle.tk_page.proofs.changed_head.waited_in.Goals as goal

pub loop-at-preserved : goal.loop-at-preserved
loop-at-preserved c =
    let side = c.args.side in
    let places = c.args.places.now in
    c.with_waited_at-sum.ensures
    ∙ ap (λ sum. option_map_or (λ x. capped (sum + waited_of side x.1)) (slice_get places c.loop-at.at) sum) c.loop-at.invariant
    ∙ fold_at (λ sum x. capped (sum + waited_of side x.1)) 0 places c.loop-at.at

pub returns : goal.returns
returns c =
    let count = c.len-at-end.ensures in
    let past = c.loop-at-test.false in
    let all : length c.args.places.now ≤ c.loop-at.at = omega arith in
    c.loop-at.invariant ∙ ap (waited_in c.args.side) (take_all c.loop-at.at c.args.places.now all)
