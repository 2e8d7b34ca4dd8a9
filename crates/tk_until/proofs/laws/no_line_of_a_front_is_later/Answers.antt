use Rattle.tk_until.proofs.Fronts.{front_lines, front_whole}
use Rattle.tk_until.proofs.laws.no_line_of_a_front_is_later.Goals as goal

pub returns-clause-lines : goal.returns-clause-lines
returns-clause-lines c = front_lines

pub returns-clause-whole : goal.returns-clause-whole
returns-clause-whole c = front_whole
