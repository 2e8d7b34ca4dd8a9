use Rattle.tk_client.proofs.CutLemmas.{grown-on}
use Rattle.tk_client.proofs.taking.grow.Goals as goal

pub returns-in_err-add_new-2-clause-grown : goal.returns-in_err-add_new-2-clause-grown
returns-in_err-add_new-2-clause-grown c = grown-on c.args.tables.now c.add_new.new.tables c.add_new-2.new.tables c.in_ok-add_new.ensures.grown c.in_err-add_new-2.ensures.grown

pub returns-in_err-add_new-3-clause-grown : goal.returns-in_err-add_new-3-clause-grown
returns-in_err-add_new-3-clause-grown c =
    grown-on c.args.tables.now c.add_new-2.new.tables c.add_new-3.new.tables
    (grown-on c.args.tables.now c.add_new.new.tables c.add_new-2.new.tables c.in_ok-add_new.ensures.grown c.in_ok-add_new-2.ensures.grown) c.in_err-add_new-3.ensures.grown

pub returns-in_err-add_counts-clause-grown : goal.returns-in_err-add_counts-clause-grown
returns-in_err-add_counts-clause-grown c =
    grown-on c.args.tables.now c.add_new-3.new.tables c.add_counts.new.tables
    (grown-on c.args.tables.now c.add_new-2.new.tables c.add_new-3.new.tables
    (grown-on c.args.tables.now c.add_new.new.tables c.add_new-2.new.tables c.in_ok-add_new.ensures.grown c.in_ok-add_new-2.ensures.grown) c.in_ok-add_new-3.ensures.grown) c.in_err-add_counts.ensures.grown
