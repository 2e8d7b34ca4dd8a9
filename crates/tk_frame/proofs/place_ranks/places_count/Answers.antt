use Rattle.std.proofs.Common.{◌≤◌, length, arith}
use Rattle.tk_frame.specs.Queries.{is_place_shown, places_by}
use Rattle.tk_frame.proofs.WalkLemmas.{count-all, count-few, count-more}
use Rattle.tk_frame.proofs.place_ranks.places_count.Goals as goal

pub count_place-count-requires : goal.count_place-count-requires
count_place-count-requires c =
    let few = count-few (is_place_shown c.args.query.now) (places_by c.args.query.now.recent c.args.odd.now) c.loop-i.i c.loop-i.count c.loop-i.invariant in
    let here = c.loop-i-test.true in
    let fits = c.place_count-i-end.type_inv in omega arith

pub loop-i-preserved : goal.loop-i-preserved
loop-i-preserved c =
    count-more (is_place_shown c.args.query.now) (places_by c.args.query.now.recent c.args.odd.now) c.loop-i.i c.loop-i.count c.count_place-count.result c.loop-i.invariant c.count_place-count.ensures

pub returns : goal.returns
returns c =
    let count = c.place_count-i-end.ensures in
    let past = c.loop-i-test.false in
    let all : length (places_by c.args.query.now.recent c.args.odd.now) ≤ c.loop-i.i = omega arith in
    count-all (is_place_shown c.args.query.now) (places_by c.args.query.now.recent c.args.odd.now) c.loop-i.i c.loop-i.count all c.loop-i.invariant
