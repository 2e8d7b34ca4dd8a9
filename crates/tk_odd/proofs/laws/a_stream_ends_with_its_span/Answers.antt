use Rattle.tk_odd.proofs.SpanLemmas.{ends_with}
use Rattle.tk_odd.proofs.laws.a_stream_ends_with_its_span.Goals as goal

pub returns : goal.returns
returns c = ends_with
