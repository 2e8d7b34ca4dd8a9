use Rattle.std.proofs.Common.{◌≤◌, length, ◌∙◌, arith}
use Rattle.tk_frame.specs.Queries.{op_key}
use Rattle.tk_frame.proofs.WalkLemmas.{ranks-more, top-all}
use Rattle.tk_frame.proofs.ranks.top_ops.Goals as goal

pub loop-place-preserved : goal.loop-place-preserved
loop-place-preserved c = record {
  items = ranks-more op_key c.args.rows c.loop-place.top.room c.args.tables.now.ops c.loop-place.place c.loop-place.top.items c.offer_op.new.top.items
      c.loop-place.invariant.room c.loop-place.invariant.items c.offer_op.ensures.items;
  room = c.offer_op.ensures.room ∙ c.loop-place.invariant.room;
}

pub returns : goal.returns
returns c =
    let count = c.op_count-place-end.ensures in
    let past = c.loop-place-test.false in
    let all : length c.args.tables.now.ops ≤ c.loop-place.place = omega arith in
    top-all op_key c.args.rows c.args.tables.now.ops c.loop-place.place c.loop-place.top.items all c.loop-place.invariant.items
