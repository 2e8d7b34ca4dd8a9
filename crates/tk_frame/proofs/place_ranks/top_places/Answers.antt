use Rattle.std.proofs.Common.{◌≤◌, length, ◌∙◌, arith}
use Rattle.tk_frame.specs.Queries.{place_key, places_by}
use Rattle.tk_frame.proofs.WalkLemmas.{ranks-more, top-all}
use Rattle.tk_frame.proofs.place_ranks.top_places.Goals as goal

pub loop-i-preserved : goal.loop-i-preserved
loop-i-preserved c = record {
  items = ranks-more (place_key c.args.query.now) c.args.rows c.loop-i.top.room (places_by c.args.query.now.recent c.args.odd.now) c.loop-i.i c.loop-i.top.items c.offer_place.new.top.items
      c.loop-i.invariant.room c.loop-i.invariant.items c.offer_place.ensures.items;
  room = c.offer_place.ensures.room ∙ c.loop-i.invariant.room;
}

pub returns : goal.returns
returns c =
    let count = c.place_count-i-end.ensures in
    let past = c.loop-i-test.false in
    let all : length (places_by c.args.query.now.recent c.args.odd.now) ≤ c.loop-i.i = omega arith in
    top-all (place_key c.args.query.now) c.args.rows (places_by c.args.query.now.recent c.args.odd.now) c.loop-i.i c.loop-i.top.items all c.loop-i.invariant.items
