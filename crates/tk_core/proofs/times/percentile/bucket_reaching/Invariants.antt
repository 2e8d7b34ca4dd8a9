use Rattle.std.proofs.Common.{◌≡◌, ◌*◌, ◌<◌, ◌≤◌, take}
use Rattle.tk_core.specs.Percentiles.{total_of}
use Rattle.tk_core.proofs.times.percentile.bucket_reaching.Given as goal

-- what was seen is less than what is needed
abbrev pub invariant-loop-bucket : goal.invariant-loop-bucket
invariant-loop-bucket l = record {
  seen : l.seen ≡ total_of (take l.bucket l.counts);
  less : 100 * l.seen < l.need;
  within : l.seen ≤ l.bucket * 18446744073709551615;
}
