use Rattle.std.proofs.Common.{sym, ◌∙◌}
use Rattle.tk_client.proofs.LineLemmas.{grown-fails, grown-fits, grown-misfits, counted-grown}
use Rattle.tk_client.proofs.taking.grow_fitting.Goals as goal

pub returns-in-Err-clause-applied : goal.returns-in-Err-clause-applied
returns-in-Err-clause-applied c = grown-fails c.args.tables.now c.args.line.now c.in-Err.fault c.requires.once c.requires.known c.in-Err.ensures.added

pub returns-else-rows_fit-clause-applied : goal.returns-else-rows_fit-clause-applied
returns-else-rows_fit-clause-applied c =
    grown-misfits c.args.tables.now c.args.line.now c.grow.new.tables c.requires.once c.requires.known c.requires.fit c.rows_fit.ensures.distinct c.in-Ok.ensures.added
    (sym (rw c.in-Ok.ensures.spent at c.rows_fit.ensures.fit) ∙ c.if-rows_fit.false)

pub returns-then-rows_fit-clause-applied : goal.returns-then-rows_fit-clause-applied
returns-then-rows_fit-clause-applied c =
    grown-fits c.args.tables.now c.args.line.now c.grow.new.tables c.requires.once c.requires.known c.requires.fit c.rows_fit.ensures.distinct c.in-Ok.ensures.added
    (sym (rw c.in-Ok.ensures.spent at c.rows_fit.ensures.fit) ∙ c.if-rows_fit.true)

pub returns-then-rows_fit-clause-counted : goal.returns-then-rows_fit-clause-counted
returns-then-rows_fit-clause-counted c = counted-grown c.args.tables.now c.args.line.now c.grow.new.tables c.in-Ok.ensures.added
