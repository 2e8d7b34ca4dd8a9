use Rattle.tk_client.proofs.CutLemmas.{grown-same}
use Rattle.tk_client.proofs.taking.add_all.Goals as goal

pub returns-in_err-ids-clause-grown : goal.returns-in_err-ids-clause-grown
returns-in_err-ids-clause-grown g c = grown-same c.args.tables.now

pub returns-in_err-told-clause-grown : goal.returns-in_err-told-clause-grown
returns-in_err-told-clause-grown g c = grown-same c.args.tables.now
