use Rattle.tk_live.proofs.interpreter.lines.write_line.Goals as goal

pub returns-then-whole-clause-sent : goal.returns-then-whole-clause-sent
returns-then-whole-clause-sent g c = rw c.if-whole.true c.snapshot.ensures.sent

pub returns-else-whole-clause-sent : goal.returns-else-whole-clause-sent
returns-else-whole-clause-sent g c = rw c.if-whole.false c.publish.ensures.sent
