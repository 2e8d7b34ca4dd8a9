use Rattle.tk_client.proofs.Ends.{first-byte, end_within, end_before, end_through, no_end}
use Rattle.tk_until.proofs.held.first_end.Goals as goal

pub returns-clause-within : goal.returns-clause-within
returns-clause-within c = end_within c.args.bytes.now c.memchr.result (first-byte c.args.bytes.now c.memchr.result c.memchr.ensures)

pub returns-clause-before : goal.returns-clause-before
returns-clause-before c = end_before c.args.bytes.now c.memchr.result (first-byte c.args.bytes.now c.memchr.result c.memchr.ensures)

pub returns-clause-through : goal.returns-clause-through
returns-clause-through c = end_through c.args.bytes.now c.memchr.result (first-byte c.args.bytes.now c.memchr.result c.memchr.ensures)

pub returns-clause-none : goal.returns-clause-none
returns-clause-none c = no_end c.args.bytes.now c.memchr.result (first-byte c.args.bytes.now c.memchr.result c.memchr.ensures)
