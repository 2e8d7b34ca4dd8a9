use Rattle.std.proofs.Common.{◌≡◌, Some, None, ap, ap₂, ◌∙◌}
use Rattle.std.specs.Map.{lookup}
use Rattle.std.specs.Str.{bytes_eq}
use Rattle.indexmap.specs.IndexMap.{insert_entry}
use Rattle.tk_series.specs.Series.{with_value}
use Rattle.tk_series.proofs.SeriesLemmas.{inserted_new, inserted_sum, shown}
use Rattle.tk_series.proofs.series.Series.add.Goals.{in-Some, in-None}
use Rattle.tk_series.proofs.series.Series.add.Goals as goal

pub returns : goal.returns
returns g c =
    let plus = g.V.Added.plus in
    let k = c.args.labels in
    let es = c.self.inside.values.entries in
    elim c.match-get.branch [
      | in-Some w ↦
          let there = w.in-Some.there.now in
          let found : Some there ≡ lookup (λ q. bytes_eq k.items q.items) es =
          w.in-Some.ensures.value ∙ ap (λ t. lookup (λ q. bytes_eq t q.items) es) c.as_slice.ensures.value in
          ap shown (c.in_ok-insert.ensures.entries ∙ ap₂ (λ inside s. insert_entry (λ p q. bytes_eq p.items q.items) inside.values.entries k s) w.self-inside-is (w.sum-is ∙ w.plus-sum.ensures))
          ∙ inserted_sum plus k c.args.value there es found
          ∙ ap (with_value plus k.items c.args.value) c.self.view_is
      | in-None w ↦
          let none : None ≡ lookup (λ q. bytes_eq k.items q.items) es =
          w.in-None.ensures.value ∙ ap (λ t. lookup (λ q. bytes_eq t q.items) es) c.as_slice.ensures.value in
          ap shown (c.in_ok-insert.ensures.entries ∙ ap₂ (λ inside s. insert_entry (λ p q. bytes_eq p.items q.items) inside.values.entries k s) w.self-inside-is w.sum-is)
          ∙ inserted_new plus k c.args.value es none
          ∙ ap (with_value plus k.items c.args.value) c.self.view_is
    ]
