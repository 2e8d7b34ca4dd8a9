use Rattle.std.proofs.Common.{◌≡◌, Some, ap, ◌∙◌, sym}
use Rattle.std.specs.Map.{lookup}
use Rattle.std.specs.Str.{bytes_eq}
use Rattle.indexmap.specs.IndexMap.{insert_entry}
use Rattle.tk_series.proofs.LimitedLemmas.{added, lookup-shown, of_values}
use Rattle.tk_series.proofs.SeriesLemmas.{inserted_sum, shown}
use Rattle.tk_series.proofs.limited.Limited.add_known.Goals as goal

pub returns : goal.returns
returns g c =
    let plus = g.V.Added.plus in
    let k = c.args.labels in
    let es = c.self.inside.values.entries in
    let found : Some c.args.there ≡ lookup (λ q. bytes_eq k.items q.items) es =
    sym (sym (lookup-shown k.items es) ∙ ap (λ s. lookup (bytes_eq k.items) s.first) c.self.view_is ∙ c.requires) in
    ap (of_values c.self.inside.room c.self.inside.rest)
    (ap shown (c.in_ok-insert.ensures.entries ∙ ap (λ s. insert_entry (λ p q. bytes_eq p.items q.items) es k s) c.plus.ensures)
    ∙ inserted_sum plus k c.args.value c.args.there es found)
    ∙ ap (added plus k.items c.args.value) c.self.view_is
