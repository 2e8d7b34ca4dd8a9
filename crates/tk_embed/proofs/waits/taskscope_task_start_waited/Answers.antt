use Rattle.std.proofs.Common.{sym, ◌∙◌}
use Rattle.tk_embed.proofs.WaitLemmas.{stays_waited, stays_unwaited, stays_unstarted}
use Rattle.tk_embed.proofs.waits.taskscope_task_start_waited.Goals as goal

pub returns-in-Some-clause-waits : goal.returns-in-Some-clause-waits
returns-in-Some-clause-waits c =
    stays_waited c.args.words.now c.args.moment c.make.new.words c.make.result c.make.ensures
    c.row_of-row.result c.in-Some.wait c.args.waits.now c.make-in-Some.new.words c.make-in-Some.result
    c.row_of-row.ensures (sym c.code-result.ensures ∙ c.if-result-eq0.true) (sym c.wait_ended_by.ensures ∙ c.in-Some.is)
    c.make-in-Some.ensures

pub returns-in_default-clause-waits : goal.returns-in_default-clause-waits
returns-in_default-clause-waits c =
    stays_unwaited c.args.words.now c.args.moment c.make.new.words c.make.result c.make.ensures
    c.row_of-row.result c.args.waits.now c.row_of-row.ensures (sym c.code-result.ensures ∙ c.if-result-eq0.true) (sym c.wait_ended_by.ensures ∙ c.in_default.is)

pub returns-else-result-eq0-clause-waits : goal.returns-else-result-eq0-clause-waits
returns-else-result-eq0-clause-waits c =
    stays_unstarted c.args.words.now c.args.moment c.make.new.words c.make.result c.make.ensures
    c.args.waits.now (λ e. c.if-result-eq0.false (c.code-result.ensures ∙ e))
