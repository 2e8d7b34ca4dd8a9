-- What the bytes of a stream come to.
use Rattle.std.specs.Prelude.{◌≡◌, ℕ, List, Option, IfSome}
use Rattle.std.specs.Io.KnownBytes.{Consumes}
use Rattle.tk_client.specs.declared.fault.Fault.{Fault}
use Rattle.tk_client.specs.Meaning.{Outcome, Start, empty_start, goes, stops, meaning, greatest_line}
use Rattle.tk_stream.specs.Tables.{TablesView}

-- what a stream's bytes come to, from empty tables on; a line has at most 268,435,456 bytes
abbrev pub outcome_of : List ℕ → Outcome
outcome_of bytes = meaning greatest_line empty_start bytes

-- these are all bytes of a reader whose bytes are known
abbrev pub AreAll : Option (List ℕ) → List ℕ → Type 0
AreAll given bytes = IfSome given (λ xs. xs ≡ bytes)

-- all bytes of a reader lead to these tables. A last line without its line end is no part of them
pub record LeadTo (given : Option (List ℕ)) (tables : TablesView) : Type 0 where
  pub bytes : List ℕ
  pub all : AreAll given bytes
  pub start : Start
  pub lines : ℕ
  pub come : outcome_of bytes ≡ goes start lines
  pub shows : start.tables ≡ tables

-- the bytes that were read have this fault, after so many lines that are applied
pub record HaveFault (given left : Option (List ℕ)) (lines : ℕ) (fault : Fault) : Type 0 where
  pub bytes : List ℕ
  pub read : Consumes given left bytes
  pub tables : TablesView
  pub used : ℕ
  pub stop : outcome_of bytes ≡ stops tables lines fault used
