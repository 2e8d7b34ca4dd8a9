use Rattle.std.proofs.Common.{◌∙◌}
use Rattle.tk_until.proofs.held.Held.judge.Goals as goal

pub lines-preserved : goal.lines-preserved
lines-preserved c = record {
  same = λ rest. c.in_ok-some.ensures.same rest ∙ c.lines.invariant.same rest;
  len = c.in_ok-some.ensures.len ∙ c.lines.invariant.len;
}

pub returns-in_err-some-clause-same : goal.returns-in_err-some-clause-same
returns-in_err-some-clause-same c = λ rest. c.in_err-some.ensures.same rest ∙ c.lines.invariant.same rest
