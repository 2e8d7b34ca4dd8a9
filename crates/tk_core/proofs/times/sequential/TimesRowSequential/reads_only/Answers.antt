use Rattle.tk_core.specs.Laws.TimesLaws.{read_leaves}
use Rattle.tk_core.proofs.times.sequential.TimesRowSequential.reads_only.Goals as goal

pub returns-in-Read : goal.returns-in-Read
returns-in-Read c _ opening calls is_opening = rw c.in-Read.is (read_leaves opening calls is_opening)
