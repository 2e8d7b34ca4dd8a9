use Rattle.tk_stream.proofs.RowsLemmas.{op_agrees}
use Rattle.tk_stream.proofs.tables.op.OpTold.see_same.Goals as goal

pub returns : goal.returns
returns c = op_agrees c.args.self.now.row
