use Rattle.std.proofs.Common.{ap₂, ◌∙◌}
use Rattle.tk_stream.specs.Fronts.{told_tables}
use Rattle.tk_stream.specs.Lines.{LineView, GoneView}
use Rattle.tk_stream.specs.Retention.{told_without}
use Rattle.tk_stream.specs.Tables.{TablesView}
use Rattle.tk_stream.proofs.PruneLemmas.{told_begin, distinct_begin, pruned_line}
use Rattle.tk_stream.proofs.line.Line.pruned.Goals as goal

pub returns-clause-line : goal.returns-clause-line
returns-clause-line c =
    let tables : TablesView = c.args.tables.now in
    let told : TablesView = told_tables c.args.told.now tables in
    let on = told_begin c.args.told.now tables c.requires.fits in
    c.without.ensures
    ∙ ap₂ (λ (g : GoneView) (l : LineView). told_without g l) c.in_ok-gone.ensures.leaving c.in_ok-line.ensures.ok
    ∙ pruned_line told (record tables { now = c.args.now }) c.args.now c.args.retention c.args.seq (distinct_begin told tables on c.see.ensures.distinct)
    (record { tasks = on.tasks; resources = on.resources; ops = on.ops; counts = on.counts })
