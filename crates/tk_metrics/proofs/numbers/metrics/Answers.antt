use Rattle.std.proofs.Common.{[], ◌∙◌, ap}
use Rattle.tk_metrics.specs.Blame.{blame_in}
use Rattle.tk_metrics.specs.Keys.{endless}
use Rattle.tk_metrics.specs.Metrics.{metrics_with}
use Rattle.tk_metrics.specs.declared.keys.Keys.{Keys}
use Rattle.tk_metrics.proofs.numbers.metrics.Goals as goal

pub returns-in-Ok-metrics_with-clause-ok : goal.returns-in-Ok-metrics_with-clause-ok
returns-in-Ok-metrics_with-clause-ok c = λ gone shown h d.
    let tables = c.args.tables.now in
    let blame = blame_in c.args.diagnosis.now.limits shown tables in
    c.in-Ok-metrics_with.ensures gone shown h d
    ∙ ap (λ (k : Keys). metrics_with k tables c.as_slice-warnings.result.now gone blame c.args.lines []) c.endless-keys.ensures
    ∙ ap (λ ws. metrics_with (endless c.args.by) tables ws gone blame c.args.lines []) (c.as_slice-warnings.ensures.value ∙ c.in-Ok.ensures)
