use Rattle.tk_odd.proofs.SpanLemmas.{all_since}
use Rattle.tk_odd.proofs.laws.a_span_since_before_all_is_all.Goals as goal

pub returns-clause-before : goal.returns-clause-before
returns-clause-before c = all_since
