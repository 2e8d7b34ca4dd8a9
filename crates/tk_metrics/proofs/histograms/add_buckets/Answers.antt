use Rattle.std.proofs.Common.{◌≡◌, ◌+◌, ◌<◌, ◌∷◌, [], ◌∙◌, ap, arith, get_or, length, refl, subst, take}
use Rattle.tk_core.specs.Lists.{capped}
use Rattle.tk_core.specs.Percentiles.{total_of}
use Rattle.tk_metrics.specs.Histograms.{bucket_key, counted, with_all}
use Rattle.tk_metrics.proofs.HistogramLemmas.{bucket_more, up_to}
use Rattle.tk_metrics.proofs.histograms.add_buckets.Goals as goal

pub loop-count-preserved : goal.loop-count-preserved
loop-count-preserved c =
    let i = c.loop-count.count-index in
    let counts = c.args.counts.now in
    let labels = c.args.labels.now in
    let x = get_or counts i 0 in
    let inv = c.loop-count.invariant in
    let within : i < length counts = omega (arith, c.loop-count-test.true, c.type_inv.counts) in
    let sum = up_to counts i x within refl in
    let seen : c.saturating_add-seen.result ≡ capped (total_of (take (i + 1) counts)) = omega (arith, c.saturating_add-seen.ensures, sum, inv.seen) in
    let added = subst (λ b. c.add_bucket.new.series ≡ with_all c.loop-count.series ((bucket_key labels b, counted c.saturating_add-seen.result) ∷ [])) inv.place c.in_ok-add_bucket.ensures in
    record {
      place = ap (λ n. n + 1) inv.place;
      seen = seen;
      added = bucket_more labels counts i x c.saturating_add-seen.result c.loop-count.series c.add_bucket.new.series within refl seen added ∙ inv.added;
    }
