use Rattle.std.proofs.Common.{◌≡◌, drop, take}
use Rattle.tk_core.specs.Lists.{capped}
use Rattle.tk_core.specs.Percentiles.{total_of}
use Rattle.tk_report.specs.Timed.{sums_from}
use Rattle.tk_metrics.specs.Histograms.{buckets_from, with_all}
use Rattle.tk_metrics.proofs.histograms.add_buckets.Given as goal

-- the buckets so far are added, and with those that are left they are all
abbrev pub invariant-loop-count : goal.invariant-loop-count
invariant-loop-count l = record {
  place : l.bucket ≡ l.count-index;
  seen : l.seen ≡ capped (total_of (take l.count-index l.counts));
  added : with_all l.series (buckets_from l.labels l.count-index (sums_from (total_of (take l.count-index l.counts)) (drop l.count-index l.counts)))
      ≡ with_all l.initial.series (buckets_from l.labels 0 (sums_from 0 l.counts));
}
