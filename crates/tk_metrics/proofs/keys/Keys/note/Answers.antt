use Rattle.std.proofs.Common.{◌++◌, ◌∙◌, ap, refl, sym}
use Rattle.tk_series.specs.Limited.{limited}
use Rattle.tk_stream.specs.Tables.{TablesView, empty_tables}
use Rattle.tk_metrics.specs.Blame.{plus_tally}
use Rattle.tk_metrics.specs.Keys.{names_between, names_since}
use Rattle.tk_metrics.proofs.KeysLemmas.{noted_none, noted_some, with_names}
use Rattle.tk_metrics.proofs.keys.Keys.note.Goals as goal

pub returns-in_ok-note_names-in-Some : goal.returns-in_ok-note_names-in-Some
returns-in_ok-note_names-in-Some c = λ apart shown before times is last h.
    let by = c.args.self.now.by in
    let t = c.args.tables.now in
    let since = names_since apart.by empty_tables shown in
    noted_some apart shown t by c.in-Some.names c.note_names.new.names (ap (with_names by) (sym c.in-Some.is) ∙ h)
    (λ room old. c.in_ok-note_names-in-Some.ensures room since before (t, times) is refl old ∙ ap (λ (b : TablesView). limited room plus_tally (since ++ names_between by b t)) last)

pub returns-in-None : goal.returns-in-None
returns-in-None c = λ apart shown before times is last h.
    let by = c.args.self.now.by in
    ap (with_names by) c.in-None.is ∙ noted_none apart shown c.args.tables.now by (ap (with_names by) (sym c.in-None.is) ∙ h)
