use Rattle.std.proofs.Common.{refl}
use Rattle.tk_core.specs.Laws.TimesSteps.{follows}
use Rattle.tk_core.proofs.times.row.TimesRow.add.Goals as goal

pub returns : goal.returns
returns c = follows _ _ _ (λ within. rw (c.saturating_add.ensures, c.bucket_of-bucket.ensures.bucket, c.max.ensures) refl)
