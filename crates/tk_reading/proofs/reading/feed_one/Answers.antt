use Rattle.std.proofs.Common.{◌≡◌, ◌+◌, ◌≤◌, ◌^◌, [], ◌∷◌, ◌++◌, List, ℕ, Option, length, arith, subst, sym}
use Rattle.std.specs.Prelude.{IfSome}
use Rattle.tk_client.specs.Changes.{ChangeView, IsChange, Timed, timed_in, untimed}
use Rattle.tk_client.specs.Feeding.{ClientView}
use Rattle.tk_reading.specs.Shown.{last_timed, timed_of}
use Rattle.tk_reading.proofs.ShownLemmas.{last_taken, timed_count}
use Rattle.tk_reading.proofs.StopLemmas.{line_stops, took_none, took_some}
use Rattle.tk_reading.proofs.reading.feed_one.Goals as goal

pub returns-in-None-clause-takes : goal.returns-in-None-clause-takes
returns-in-None-clause-takes g c = λ from front h seen.
    let fed = c.in-Ok.ensures.fed h.took.sound in
    took_none _ _ (g.O.Observes.saw from) front c.args.piece.now c.args.lines.now c.in-Ok.fed.used c.args.client.now c.feed_line.new.self h c.feed_line.ensures.limit
    c.in-Ok.fed.change c.in-None.is fed.0 c.args.observer.now seen

pub returns-in-Ok-line-clause-takes : goal.returns-in-Ok-line-clause-takes
returns-in-Ok-line-clause-takes g c = λ from front h seen.
    let fed = c.in-Ok.ensures.fed h.took.sound in
    let old : ClientView = c.args.client.now in
    let new : ClientView = c.feed_line.new.self in
    let change : ChangeView = c.in-Some.change in
    let is : IsChange (timed_in old.start) (timed_in new.start) change =
    subst (λ (o : Option ChangeView). IfSome o (IsChange (timed_in old.start) (timed_in new.start))) c.in-Some.is fed.1 in
    let last : last_timed untimed (timed_of front) ≡ timed_in old.start = last_taken front c.args.lines.now old h in
    let shown : timed_in new.start ≡ (c.tables.result.now, c.times.result.now) = λ i. (sym c.tables.ensures i, sym c.times.ensures i) in
    let told : IsChange (last_timed untimed (timed_of front)) (c.tables.result.now, c.times.result.now) change =
    subst (λ (t : Timed). IsChange (last_timed untimed (timed_of front)) t change) shown (subst (λ (b : Timed). IsChange b (timed_in new.start) change) (sym last) is) in
    let few : length (timed_of front) ≤ 2 ^ 62 = omega (arith, timed_count front c.args.lines.now old h, c.requires) in
    took_some _ _ (g.O.Observes.saw from) front c.args.piece.now c.args.lines.now c.in-Ok.fed.used old new h c.feed_line.ensures.limit
    c.in-Ok.fed.change change c.in-Some.is fed.0 c.line.new.self
    (subst (λ (t : Timed). g.O.Observes.saw from (timed_of front ++ t ∷ []) c.line.new.self) (sym shown) (c.in-Ok-line.ensures from (timed_of front) few told seen))

pub returns-clause-takes : goal.returns-clause-takes
returns-clause-takes g c = λ from front h seen.
    line_stops _ (g.O.Observes.saw from) front c.args.piece.now c.args.lines.now c.args.client.now c.feed_line.new.self c.in-Err.error c.args.observer.now h seen
    (c.in-Err.ensures.fed h.took.sound) c.stopped.result c.stopped.ensures
