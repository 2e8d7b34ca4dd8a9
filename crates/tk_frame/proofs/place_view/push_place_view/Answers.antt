use Rattle.tk_frame.specs.PlaceView.{part_if}
use Rattle.tk_frame.proofs.PlaceLemmas.{all_put, next_put}
use Rattle.tk_frame.proofs.place_view.push_place_view.Goals as goal

pub loop-i-preserved : goal.loop-i-preserved
loop-i-preserved c = next_put (part_if c.args.number c.args.tables.now c.args.odd.now) c.args.odd.now.places c.loop-i.i c.loop-i.invariant c.in_ok-push_part_if.ensures

pub returns : goal.returns
returns c = all_put (part_if c.args.number c.args.tables.now c.args.odd.now) c.args.odd.now.places c.loop-i.i _ c.place_count-i-end.ensures c.loop-i-test.false c.loop-i.invariant
