use Rattle.std.proofs.Common.{◌≡◌, ◌+◌, ◌-◌, ◌<◌, ◌++◌, Err, ℕ, List, length, take, drop, arith, ap, subst, sym, ◌∙◌, length-take, length-drop}
use Rattle.std.proofs.lemmas.Result.{err_from_is_err_and}
use Rattle.tk_client.proofs.FeedLemmas.{rest_is, within_piece}
use Rattle.tk_reading.specs.Reads.{TakesMore}
use Rattle.tk_reading.specs.Shown.{timed_of}
use Rattle.tk_reading.specs.Taken.{HasTaken}
use Rattle.tk_reading.proofs.PieceLemmas.{more_taken}
use Rattle.tk_reading.proofs.StopLemmas.{piece_stops_at}
use Rattle.tk_reading.proofs.reading.feed_lines.Goals as goal

some_left : (at : ℕ) (piece : List ℕ) → at < length piece → 0 < length (take (length piece - at) (drop at piece))
some_left at piece lt = omega (arith, length-take (length piece - at) (drop at piece), length-drop at piece, lt)

pub loop-at-preserved : goal.loop-at-preserved
loop-at-preserved g c =
    let i = c.loop-at.invariant in
    let at = c.loop-at.at in
    let piece = c.args.piece.now in
    let used = c.in_ok-used.used in
    let some : 0 < length (take (length piece - at) (drop at piece)) = some_left at piece c.loop-at-test.true in
    let few = c.in_ok-used.ensures.few some in
    record {
      within = within_piece at used piece i.within c.in_ok-used.ensures.within;
      few = omega (arith, i.few, few);
      taken = λ from front h seen.
          let before = i.taken from front h seen in
          let now = c.in_ok-used.ensures.takes from (front ++ take at piece) before.0 before.1 in
          let is : (front ++ take at piece) ++ take used (take (length piece - at) (drop at piece)) ≡ front ++ take (at + used) piece =
          ap (λ xs. (front ++ take at piece) ++ take used xs) (rest_is at piece) ∙ sym (more_taken front piece at used) in (
            subst (λ xs. HasTaken xs c.feed_one.new.lines c.feed_one.new.client) is now.0,
            subst (λ xs. g.O.Observes.saw from (timed_of xs) c.feed_one.new.observer) is now.1,
          );
    }

pub loop-at-smaller : goal.loop-at-smaller
loop-at-smaller g c =
    let at = c.loop-at.at in
    let piece = c.args.piece.now in
    let used = c.in_ok-used.used in
    let some : 0 < used = c.in_ok-used.ensures.some (some_left at piece c.loop-at-test.true) in
    let within = within_piece at used piece c.loop-at.invariant.within c.in_ok-used.ensures.within in
    omega (arith, some, within, c.loop-at-test.true)

pub returns-in_err-used-clause-takes : goal.returns-in_err-used-clause-takes
returns-in_err-used-clause-takes g c = λ from front h seen.
    let at = c.loop-at.at in
    let piece = c.args.piece.now in
    let before = c.loop-at.invariant.taken from front h seen in
    let answer = c.in_err-used.field-0.0 in
    let p = err_from_is_err_and c.from_residual.result c.from_residual.ensures.1 in
    rw (p.1, p.2) (piece_stops_at _ (g.O.Observes.saw from) front piece at c.feed_one.new.client c.feed_one.new.observer answer
    (subst (λ xs. TakesMore (g.O.Observes.saw from) (front ++ take at piece) xs (Err answer) c.feed_one.new.client c.feed_one.new.observer) (rest_is at piece)
    (c.in_err-used.ensures.takes from (front ++ take at piece) before.0 before.1)))
