use Rattle.std.proofs.Common.{List, subst}
use Rattle.tk_odd.specs.Inner.{Follows}
use Rattle.tk_stream.specs.Tables.{TablesView}
use Rattle.tk_odd.proofs.SpanLemmas.{none_of_span}
use Rattle.tk_odd.proofs.span.Span.new.Goals as goal

pub returns-clause-nothing : goal.returns-clause-nothing
returns-clause-nothing c =
    subst (λ (xs : List TablesView). Follows xs c.in_ok-diagnosis.diagnosis) (none_of_span c.args.since) c.in_ok-diagnosis.ensures.nothing
