use Rattle.std.proofs.Common.{◌≡◌, ◌+◌, ◌-◌, ◌^◌, min, arith}
use Rattle.tk_core.specs.Laws.TimesSteps.{follows}
use Rattle.tk_core.proofs.times.row.TimesRow.enlist.Goals as goal
use Rattle.std.proofs.lemmas.Bool.{ne_eqb}

pub returns-then-self-eq-MOST_HANDLES : goal.returns-then-self-eq-MOST_HANDLES
returns-then-self-eq-MOST_HANDLES c = follows _ _ _ (λ within. rw c.if-self-eq-MOST_HANDLES.true)

pub returns : goal.returns
returns c = follows _ _ _ (λ within.
    let fits : min (c.args.self.now.handles + 1) (2 ^ 64 - 1) ≡ c.args.self.now.handles + 1 = omega arith in
    rw (ne_eqb _ _ c.if-self-eq-MOST_HANDLES.false, c.saturating_add-handles.ensures, fits))
