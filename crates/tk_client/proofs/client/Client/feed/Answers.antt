use Rattle.std.proofs.Common.{ap, sym, ◌∙◌, arith, subst, take, length, drop, length-take, length-drop, ◌-◌}
use Rattle.tk_client.specs.Meaning.{goes, meaning}
use Rattle.tk_client.specs.Feeding.{StoppedBy}
use Rattle.tk_client.proofs.FeedLemmas.{goes_on, lines-few, stops_on, within_piece}
use Rattle.tk_client.proofs.client.Client.feed.Goals as goal

pub loop-at-preserved : goal.loop-at-preserved
loop-at-preserved c =
    let i = c.loop-at.invariant in
    let taken = c.in-Ok.ensures.step.0 in
    let rest = take (length c.args.piece.now - c.loop-at.at) (drop c.loop-at.at c.args.piece.now) in
    let some = taken.some (omega (arith, length-take (length c.args.piece.now - c.loop-at.at) (drop c.loop-at.at c.args.piece.now), length-drop c.loop-at.at c.args.piece.now, c.loop-at-test.true)) in
    record {
      within = within_piece c.loop-at.at c.in-Ok.used c.args.piece.now i.within taken.within;
      few = omega (arith, i.few, c.ended-lines.ensures, lines-few c.in-Ok.note c.in-Ok.used some);
      came = goes_on c.args.self.now.max_line c.args.self.now.start c.loop-at.self.start c.step.new.self.start c.args.piece.now c.loop-at.at c.in-Ok.used c.loop-at.lines c.ended-lines.result i.within i.came
          (ap (λ m. meaning m c.loop-at.self.start (take c.in-Ok.used rest)) (sym i.limit) ∙ taken.took.came ∙ ap (goes c.step.new.self.start) (sym c.ended-lines.ensures));
      sound = taken.took.sound;
      limit = c.in-Ok.ensures.limit ∙ i.limit;
    }

pub returns-in-Err-clause-fed : goal.returns-in-Err-clause-fed
returns-in-Err-clause-fed c sound =
    let i = c.loop-at.invariant in
    let s = c.in-Err.ensures.step.stopped in
    let e = c.in-Err.e in
    let rest = take (length c.args.piece.now - c.loop-at.at) (drop c.loop-at.at c.args.piece.now) in
    record {
      within = within_piece c.loop-at.at e.used c.args.piece.now i.within s.within;
      few = omega (arith, i.few, s.few);
      by = stops_on c.args.self.now.max_line c.args.self.now.start c.loop-at.self.start c.args.piece.now c.loop-at.at c.loop-at.lines e c.step.new.self i.within i.came
          (subst (λ m. StoppedBy e.fault (meaning m c.loop-at.self.start (take e.used rest)) e c.step.new.self) i.limit s.by);
    }
