-- Which number an error has.
use Rattle.std.specs.Prelude.{ℕ}
use Rattle.tk_events.specs.declared.error.OpenError.{OpenError}
use Rattle.tk_events.specs.declared.error.OpenError.TheVariants as opening
use Rattle.tk_events.specs.declared.error.RecordError.{RecordError}
use Rattle.tk_events.specs.declared.error.RecordError.TheVariants as recording
use Rattle.tk_events.specs.declared.error.FinishError.{FinishError}
use Rattle.tk_events.specs.declared.error.FinishError.TheVariants as finishing

-- the number of a refused opening
abbrev pub open_code : OpenError → ℕ
open_code opening.BadLimit = 1
open_code opening.Memory = 2

-- the number of a refused offer
abbrev pub record_code : RecordError → ℕ
record_code recording.OffersSpent = 1
record_code recording.Memory = 2

-- the number of a refused end
abbrev pub finish_code : FinishError → ℕ
finish_code finishing.Missing = 1
finish_code finishing.Finished = 2
