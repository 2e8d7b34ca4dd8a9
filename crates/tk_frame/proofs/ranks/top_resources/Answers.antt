use Rattle.std.proofs.Common.{◌≤◌, length, ◌∙◌, arith}
use Rattle.tk_frame.specs.Queries.{resource_key}
use Rattle.tk_frame.proofs.WalkLemmas.{ranks-more, top-all}
use Rattle.tk_frame.proofs.ranks.top_resources.Goals as goal

pub loop-place-preserved : goal.loop-place-preserved
loop-place-preserved c = record {
  items = ranks-more (resource_key c.args.tables.now.counts) c.args.rows c.loop-place.top.room c.args.tables.now.resources c.loop-place.place c.loop-place.top.items c.offer_resource.new.top.items
      c.loop-place.invariant.room c.loop-place.invariant.items c.offer_resource.ensures.items;
  room = c.offer_resource.ensures.room ∙ c.loop-place.invariant.room;
}

pub returns : goal.returns
returns c =
    let count = c.resource_count-place-end.ensures in
    let past = c.loop-place-test.false in
    let all : length c.args.tables.now.resources ≤ c.loop-place.place = omega arith in
    top-all (resource_key c.args.tables.now.counts) c.args.rows c.args.tables.now.resources c.loop-place.place c.loop-place.top.items all c.loop-place.invariant.items
