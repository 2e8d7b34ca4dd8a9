use Rattle.std.proofs.Common.{◌≤◌, length, arith}
use Rattle.tk_frame.specs.Queries.{is_shown}
use Rattle.tk_frame.proofs.WalkLemmas.{count-all, count-few, count-more}
use Rattle.tk_frame.proofs.ranks.shown_count.Goals as goal

pub count_task-count-requires : goal.count_task-count-requires
count_task-count-requires c =
    let few = count-few (is_shown c.args.query.now) c.args.tables.now.tasks c.loop-place.place c.loop-place.count c.loop-place.invariant in
    let here = c.loop-place-test.true in
    let fits = c.task_count-place-end.type_inv in omega arith

pub loop-place-preserved : goal.loop-place-preserved
loop-place-preserved c =
    count-more (is_shown c.args.query.now) c.args.tables.now.tasks c.loop-place.place c.loop-place.count c.count_task-count.result c.loop-place.invariant c.count_task-count.ensures

pub returns : goal.returns
returns c =
    let count = c.task_count-place-end.ensures.count in
    let past = c.loop-place-test.false in
    let all : length c.args.tables.now.tasks ≤ c.loop-place.place = omega arith in
    count-all (is_shown c.args.query.now) c.args.tables.now.tasks c.loop-place.place c.loop-place.count all c.loop-place.invariant
