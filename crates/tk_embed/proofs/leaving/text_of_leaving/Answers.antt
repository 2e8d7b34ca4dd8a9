use Rattle.std.proofs.Common.{◌≡◌, ap, subst, ◌∙◌}
use Rattle.std.specs.Prelude.{IfOk}
use Rattle.tk_stream.specs.Lines.{LineView}
use Rattle.tk_stream.specs.Retention.{line_pruned, prune}
use Rattle.tk_stream.specs.Spelling.{sent_text}
use Rattle.tk_stream.specs.Tables.{TablesView}
use Rattle.tk_embed.proofs.leaving.text_of_leaving.Goals as goal

pub returns-clause-ok : goal.returns-clause-ok
returns-clause-ok c =
    let tables : TablesView = c.args.tables.now in
    subst (λ (l : LineView). IfOk c.sent.result (λ text. text.items ≡ sent_text l))
    (c.in-Ok.ensures.line ∙ ap (λ (t : TablesView). line_pruned t (prune (record tables { now = c.args.moment }) t c.args.moment c.args.retention) c.args.seq) c.tell.ensures.told)
    c.sent.ensures.ok
