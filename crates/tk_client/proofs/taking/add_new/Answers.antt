use Rattle.tk_client.proofs.CutLemmas.{grown-same}
use Rattle.tk_client.proofs.taking.add_new.Goals as goal

pub returns-then-is_empty-clause-grown : goal.returns-then-is_empty-clause-grown
returns-then-is_empty-clause-grown g c = grown-same c.args.tables.now
