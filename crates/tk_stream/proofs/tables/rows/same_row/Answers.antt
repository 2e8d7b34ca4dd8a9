use Rattle.std.proofs.Common.{◌∙◌}
use Rattle.std.proofs.Math.Bool.{and_assoc}
use Rattle.tk_stream.proofs.tables.rows.same_row.Goals as goal

-- the derived test joins the fields' tests from the right
pub returns : goal.returns
returns c = c.eq.ensures ∙ simp and_assoc
