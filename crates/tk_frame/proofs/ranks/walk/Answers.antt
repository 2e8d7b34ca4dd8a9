use Rattle.std.proofs.Common.{◌≤◌, length, ◌∙◌, arith}
use Rattle.tk_frame.specs.Queries.{task_key}
use Rattle.tk_frame.proofs.WalkLemmas.{tally-more, total-so_far, ranks-more, states-all, top-all}
use Rattle.tk_frame.proofs.ranks.walk.Goals as goal

pub take_task-states-requires : goal.take_task-states-requires
take_task-states-requires c =
    let few = total-so_far c.args.tables.now.tasks c.loop-place.place c.loop-place.states c.loop-place.invariant.states in
    let here = c.loop-place-test.true in
    let fits = c.task_count-place-end.type_inv in omega arith

pub loop-place-preserved : goal.loop-place-preserved
loop-place-preserved c = record {
  states = tally-more c.args.tables.now.tasks c.loop-place.place c.loop-place.states c.take_task-states.result c.loop-place.invariant.states c.take_task-states.ensures.states;
  items = ranks-more (task_key c.args.query.now c.args.tables.now.now) c.args.rows c.loop-place.top.room c.args.tables.now.tasks c.loop-place.place c.loop-place.top.items c.take_task-states.new.top.items
      c.loop-place.invariant.room c.loop-place.invariant.items c.take_task-states.ensures.items;
  room = c.take_task-states.ensures.room ∙ c.loop-place.invariant.room;
}

pub returns-clause-states : goal.returns-clause-states
returns-clause-states c =
    let count = c.task_count-place-end.ensures.count in
    let past = c.loop-place-test.false in
    let all : length c.args.tables.now.tasks ≤ c.loop-place.place = omega arith in
    states-all c.args.tables.now.tasks c.loop-place.place c.loop-place.states all c.loop-place.invariant.states

pub returns-clause-top : goal.returns-clause-top
returns-clause-top c =
    let count = c.task_count-place-end.ensures.count in
    let past = c.loop-place-test.false in
    let all : length c.args.tables.now.tasks ≤ c.loop-place.place = omega arith in
    top-all (task_key c.args.query.now c.args.tables.now.now) c.args.rows c.args.tables.now.tasks c.loop-place.place c.loop-place.top.items all c.loop-place.invariant.items
