-- When a stream ends.
use Rattle.std.specs.Prelude.{◌≡◌, ℕ, List, Option, Result, Ok, Err}
use Rattle.tk_client.specs.Meaning.{Start, goes}
use Rattle.tk_fault.specs.declared.fault.AppFault.{AppFault}
use Rattle.tk_fault.specs.declared.fault.AppFault.TheVariants as faults
use Rattle.tk_reading.specs.Outcomes.{AreAll, HaveFault, outcome_of}

-- all bytes of a reader lead to tables of this moment
pub record EndsAt (given : Option (List ℕ)) (end : ℕ) : Type 0 where
  pub start : Start
  pub bytes : List ℕ
  pub all : AreAll given bytes
  pub lines : ℕ
  pub come : outcome_of bytes ≡ goes start lines
  pub is : end ≡ start.tables.now

-- what looking for the end of a stream came to, by its answer: of the reader's bytes that were given and those that are left
abbrev pub Ends : Option (List ℕ) → Option (List ℕ) → Result ℕ AppFault → Type 0
Ends given left (Ok end) = EndsAt given end
Ends given left (Err (faults.Stream lines fault)) = HaveFault given left lines fault
Ends given left (Err faults.Memory) = Unit {0}
Ends given left (Err faults.Read) = Unit {0}
Ends given left (Err faults.Write) = ⊥
Ends given left (Err (faults.Script line name)) = ⊥
