use Rattle.tk_stream.proofs.RowsLemmas.{same_rows, same_resource_rows, same_op_rows, same_poll_counts}
use Rattle.tk_stream.proofs.laws.same_rows_are_equal.Goals as goal

pub returns : goal.returns
returns c = record { tasks = same_rows; resources = same_resource_rows; ops = same_op_rows; counts = same_poll_counts }
