use Rattle.std.proofs.Common.{sym, ◌∙◌}
use Rattle.tk_stream.proofs.RowsLemmas.{same_rows}
use Rattle.tk_stream.proofs.tables.task.TaskTold.has_row.Goals as goal

pub returns-clause-own : goal.returns-clause-own
returns-clause-own c same = λ i. record c.args.self.now { row = (same_rows c.args.row.now c.args.self.now.row).0 (sym c.same_row.ensures ∙ same) i }
