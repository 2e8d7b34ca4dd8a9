-- What is written of two streams, and what that comes to.
use Rattle.std.specs.Prelude.{◌≡◌, ℕ, List, Option, Result, Ok, Err}
use Rattle.std.specs.Io.KnownBytes.{Appends}
use Rattle.tk_core.specs.Lists.{capped}
use Rattle.tk_stream.specs.Sent.{IsCut}
use Rattle.tk_fault.specs.declared.fault.AppFault.{AppFault}
use Rattle.tk_fault.specs.declared.fault.AppFault.TheVariants as faults
use Rattle.tk_compare.specs.Compared.{compared}
use Rattle.tk_compare.specs.Found.{compared_findings}
use Rattle.tk_compare.specs.Recorded.{names_kept}
use Rattle.tk_compare.specs.Text.{comparison_text, worse_count}
use Rattle.tk_compare.specs.declared.change.Margin.{Margin}
use Rattle.tk_compare.specs.declared.change.Spans.{Spans}
use Rattle.tk_compare.specs.declared.recorded.Recorded.{Recorded}

-- how long both took
abbrev pub spans_of : Recorded → Recorded → Spans
spans_of before after = record { before = before.span; after = after.span }

-- what is written of both
abbrev pub text_of : Margin → Recorded → Recorded → List ℕ
text_of margin before after =
    comparison_text margin (spans_of before after) (compared before after) (compared_findings (names_kept before) (names_kept after))

-- how much got worse
abbrev pub worse_of : Margin → Recorded → Recorded → ℕ
worse_of margin before after =
    capped (worse_count margin (spans_of before after) (compared before after) (compared_findings (names_kept before) (names_kept after)))

-- the text was written, and what got worse was counted
pub record ShowsComparison (margin : Margin) (before after : Recorded) (count : ℕ) (old new : Option (List ℕ)) : Type 0 where
  pub wrote : Appends old new (text_of margin before after)
  pub counted : count ≡ worse_of margin before after

-- a proper front of the text was written
pub record ShowsComparisonFront (margin : Margin) (before after : Recorded) (old new : Option (List ℕ)) : Type 0 where
  pub front : List ℕ
  pub cut : IsCut (text_of margin before after) front
  pub wrote : Appends old new front

-- what a comparison came to, by its answer: of the writer's bytes before and after
abbrev pub Compares : Margin → Recorded → Recorded → Result ℕ AppFault → Option (List ℕ) → Option (List ℕ) → Type 0
Compares margin before after (Ok count) old new = ShowsComparison margin before after count old new
Compares margin before after (Err faults.Write) old new = ShowsComparisonFront margin before after old new
Compares margin before after (Err faults.Memory) old new = Unit {0}
Compares margin before after (Err faults.Read) old new = ⊥
Compares margin before after (Err (faults.Stream lines fault)) old new = ⊥
Compares margin before after (Err (faults.Script line name)) old new = ⊥
