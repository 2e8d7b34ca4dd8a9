use Rattle.std.proofs.Common.{[]}
use Rattle.tk_compare.proofs.found.compare_findings.Goals as goal

pub returns : goal.returns
returns c = c.in_ok-add_stream-2.ensures _ (c.in_ok-add_stream.ensures [] c.new-findings.ensures)
