-- How far a client has taken a stream.
use Rattle.std.specs.Prelude.{◌≡◌, ℕ, List, false}
use Rattle.tk_client.specs.declared.fault.Fault.{Fault}
use Rattle.tk_client.specs.declared.fault.Fault.TheVariants as client
use Rattle.tk_client.specs.Feeding.{ClientView, Took}
use Rattle.tk_client.specs.Meaning.{empty_start, greatest_line}
use Rattle.tk_fault.specs.declared.fault.AppFault.{AppFault}
use Rattle.tk_fault.specs.declared.fault.AppFault.TheVariants as faults

-- where a client begins
abbrev pub first : ClientView
first = record { start = empty_start; has_failed = false; max_line = greatest_line }

-- what a client's fault after so many lines is to those who read
abbrev pub stop_of : ℕ → Fault → AppFault
stop_of lines client.Memory = faults.Memory
stop_of lines fault = faults.Stream lines fault

-- a client has taken these bytes, and applied so many lines
pub record HasTaken (bytes : List ℕ) (lines : ℕ) (now : ClientView) : Type 0 where
  pub took : Took first bytes lines now
  pub limit : now.max_line ≡ greatest_line
