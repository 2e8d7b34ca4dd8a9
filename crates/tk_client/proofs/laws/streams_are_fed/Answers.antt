use Rattle.tk_client.proofs.StreamLemmas.{fed_whole, fed_piece}
use Rattle.tk_client.proofs.laws.streams_are_fed.Goals as goal

pub returns-clause-tables : goal.returns-clause-tables
returns-clause-tables c = fed_whole c.lines_lead_on.ensures.between c.lines_lead_on.ensures.less c.lines_lead_on.ensures.snapshot c.lines_read_back.ensures

pub returns-clause-memory : goal.returns-clause-memory
returns-clause-memory c = fed_piece c.lines_lead_on.ensures.between c.lines_lead_on.ensures.less c.lines_lead_on.ensures.snapshot c.lines_read_back.ensures
