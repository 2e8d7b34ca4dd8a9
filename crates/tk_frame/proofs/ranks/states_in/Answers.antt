use Rattle.std.proofs.Common.{◌≤◌, length, arith}
use Rattle.tk_frame.proofs.WalkLemmas.{states-all, tally-more, total-so_far}
use Rattle.tk_frame.proofs.ranks.states_in.Goals as goal

pub with_task-states-requires : goal.with_task-states-requires
with_task-states-requires c =
    let few = total-so_far c.args.tables.now.tasks c.loop-place.place c.loop-place.states c.loop-place.invariant in
    let here = c.loop-place-test.true in
    let fits = c.task_count-place-end.type_inv in omega arith

pub loop-place-preserved : goal.loop-place-preserved
loop-place-preserved c =
    tally-more c.args.tables.now.tasks c.loop-place.place c.loop-place.states c.with_task-states.result c.loop-place.invariant c.with_task-states.ensures

pub returns : goal.returns
returns c =
    let count = c.task_count-place-end.ensures.count in
    let past = c.loop-place-test.false in
    let all : length c.args.tables.now.tasks ≤ c.loop-place.place = omega arith in
    states-all c.args.tables.now.tasks c.loop-place.place c.loop-place.states all c.loop-place.invariant
