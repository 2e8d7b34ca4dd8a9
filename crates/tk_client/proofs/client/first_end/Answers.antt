use Rattle.tk_client.proofs.Ends.{end_within, end_before, end_through, no_end}
use Rattle.tk_client.proofs.client.first_end.Goals as goal

pub returns-clause-within : goal.returns-clause-within
returns-clause-within c = end_within c.args.bytes.now c.find_end.result c.find_end.ensures

pub returns-clause-before : goal.returns-clause-before
returns-clause-before c = end_before c.args.bytes.now c.find_end.result c.find_end.ensures

pub returns-clause-through : goal.returns-clause-through
returns-clause-through c = end_through c.args.bytes.now c.find_end.result c.find_end.ensures

pub returns-clause-none : goal.returns-clause-none
returns-clause-none c = no_end c.args.bytes.now c.find_end.result c.find_end.ensures
