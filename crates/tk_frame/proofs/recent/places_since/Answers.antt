use Rattle.std.proofs.Common.{ap, sym, ◌∙◌, arith}
use Rattle.tk_frame.specs.Places.{place_since, put_in, row_of}
use Rattle.tk_frame.proofs.RecentLemmas.{since_more}
use Rattle.tk_frame.proofs.recent.places_since.Goals as goal

pub loop-place-preserved : goal.loop-place-preserved
loop-place-preserved c =
    c.in_ok-put_since.ensures
    ∙ ap (λ ps. put_in ps (place_since c.args.earlier.now (row_of c.place-item.result))) c.loop-place.invariant
    ∙ sym (since_more c.args.earlier.now c.args.places.now c.loop-place.place-index c.place-item.result (omega arith) c.place-item.is)
