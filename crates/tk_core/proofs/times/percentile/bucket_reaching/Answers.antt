use Rattle.std.proofs.Common.{◌<◌, length, arith}
use Rattle.tk_core.specs.Laws.PercentileLaws.{total_more}
use Rattle.tk_core.proofs.times.percentile.bucket_reaching.Goals as goal

pub returns-then-need-seen : goal.returns-then-need-seen
returns-then-need-seen c =
    let within : c.loop-bucket.bucket < length c.args.counts.now = omega arith in
    let more = total_more c.args.counts.now c.loop-bucket.bucket within in
    (omega (arith, more), omega (arith, more))

pub loop-bucket-preserved : goal.loop-bucket-preserved
loop-bucket-preserved c =
    let within : c.loop-bucket.bucket < length c.args.counts.now = omega arith in
    let more = total_more c.args.counts.now c.loop-bucket.bucket within in
    record { seen = omega (arith, more); less = omega arith; within = omega arith }
