use Rattle.tk_client.proofs.StreamLemmas.{whole, fronts}
use Rattle.tk_client.proofs.laws.streams_are_taken.Goals as goal

pub returns-clause-whole : goal.returns-clause-whole
returns-clause-whole c = whole c.lines_lead_on.ensures.between c.lines_lead_on.ensures.less c.lines_lead_on.ensures.snapshot c.lines_read_back.ensures

pub returns-clause-fronts : goal.returns-clause-fronts
returns-clause-fronts c = fronts c.lines_lead_on.ensures.between c.lines_lead_on.ensures.less c.lines_lead_on.ensures.snapshot c.lines_read_back.ensures
