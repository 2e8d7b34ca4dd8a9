use Rattle.std.proofs.Common.{ap₂, ◌∙◌}
use Rattle.tk_stream.specs.Fronts.{ToldView, told_tables}
use Rattle.tk_stream.specs.Retention.{due_of}
use Rattle.tk_stream.specs.Tables.{TablesView}
use Rattle.tk_stream.proofs.line.leaving.due.Goals as goal

pub returns-clause-gone : goal.returns-clause-gone
returns-clause-gone c =
    (λ i. record { ops = c.in_ok-op_ids.ensures.ids i; resources = c.in_ok-resource_ids.ensures.ids i; tasks = c.in_ok-task_ids.ensures.ids i })
    ∙ ap₂ (λ (t : ToldView) (v : TablesView). due_of (told_tables t v) c.args.now c.args.retention) c.told.view_is c.tables.view_is

pub returns-clause-leaving : goal.returns-clause-leaving
returns-clause-leaving c =
    (λ i. record { ops = c.in_ok-op_ids.ensures.keys i; resources = c.in_ok-resource_ids.ensures.keys i; tasks = c.in_ok-task_ids.ensures.keys i })
    ∙ ap₂ (λ (t : ToldView) (v : TablesView). due_of (told_tables t v) c.args.now c.args.retention) c.told.view_is c.tables.view_is
