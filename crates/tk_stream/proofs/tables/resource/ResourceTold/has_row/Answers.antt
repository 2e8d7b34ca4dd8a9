use Rattle.std.proofs.Common.{sym, ◌∙◌}
use Rattle.tk_stream.proofs.RowsLemmas.{same_resource_rows}
use Rattle.tk_stream.proofs.tables.resource.ResourceTold.has_row.Goals as goal

pub returns-clause-own : goal.returns-clause-own
returns-clause-own c same = λ i. record c.args.self.now { row = (same_resource_rows c.args.row.now c.args.self.now.row).0 (sym c.same_resource_row.ensures ∙ same) i }
