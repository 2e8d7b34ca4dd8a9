use Rattle.std.proofs.Common.{List, subst, sym, arith}
use Rattle.tk_screen.specs.Screens.{LineView}
use Rattle.tk_screen.specs.Texts.{Puts}
use Rattle.tk_screen.proofs.PutLemmas.{both}
use Rattle.tk_frame.specs.PlaceLines.{place_row}
use Rattle.tk_frame.specs.Queries.{places_by}
use Rattle.tk_frame.proofs.FindingLemmas.{numbered_next}
use Rattle.tk_frame.proofs.place_lines.push_rows.Goals as goal

pub loop-i-preserved : goal.loop-i-preserved
loop-i-preserved c =
    let i = c.loop-i.i in
    subst (λ (p : List LineView). Puts c.args.lines.now.items c.push_place.new.lines.items p)
    (sym (numbered_next (place_row (places_by c.args.recent c.args.odd.now) c.args.chosen) 0 c.args.top.now i _ i c.loop-i-test.true (omega arith)))
    (both c.loop-i.invariant c.in_ok-push_place.ensures)
