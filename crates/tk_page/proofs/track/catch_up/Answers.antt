use Rattle.std.proofs.Common.{sym, ◌∙◌, arith}
use Rattle.tk_page.proofs.TrackLemmas.{all_taken}
use Rattle.tk_page.proofs.track.catch_up.Goals as goal

pub loop-at-preserved : goal.loop-at-preserved
loop-at-preserved c = c.in_ok-at.ensures.others ∙ c.loop-at.invariant

pub returns : goal.returns
returns c =
    sym (all_taken c.loop-at.course c.args.row.now c.args.moments.now c.loop-at.at (omega (arith, c.loop-at-test.false))) ∙ c.loop-at.invariant
