use Rattle.std.proofs.Common.{◌++◌, ◌∙◌, ap}
use Rattle.std.specs.Prelude.{codes}
use Rattle.tk_report.proofs.PutLemmas.{both}
use Rattle.tk_metrics.specs.Blame.{blame_families, blame_in}
use Rattle.tk_metrics.specs.Metrics.{others_family, text_of}
use Rattle.tk_metrics.specs.declared.by.By.{By}
use Rattle.tk_metrics.proofs.numbers.metrics_with.Goals as goal

pub returns : goal.returns
returns c = λ gone shown h d.
    let keys = c.args.keys.now in
    let warnings = c.args.warnings.now in
    let lines = c.args.lines in
    let blame = blame_in c.args.diagnosis.now.limits shown c.args.tables.now in
    let end = c.args.more.now ++ codes "# EOF\n" in
    let rest = λ (by : By). others_family keys ++ (blame_families by blame ++ end) in
    (both c.in_ok-put_text.ensures (both c.in_ok-put_others.ensures (both (c.in_ok-put_blame.ensures shown d) (both c.in_ok-put_bytes.ensures c.in_ok-put.ensures)))).is
    ∙ ap (λ xs. xs ++ (text_of c.add_tasks.new.series c.add_resources.new.series warnings c.dropped.result lines c.now.result ++ rest c.by.result)) c.new-text.ensures.items
    ∙ (λ i. text_of (c.in_ok-add_tasks.ensures gone.tasks h.tasks i) (c.in_ok-add_resources.ensures gone.resources h.resources i) warnings (c.dropped.ensures i) lines (c.now.ensures i) ++ rest (c.by.ensures i))
