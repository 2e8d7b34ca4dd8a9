use Rattle.tk_stream.proofs.RowsLemmas.{resource_agrees}
use Rattle.tk_stream.proofs.tables.resource.ResourceTold.see_same.Goals as goal

pub returns : goal.returns
returns c = resource_agrees c.args.self.now.row
