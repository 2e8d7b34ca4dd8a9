-- Which number a fault has.
use Rattle.std.specs.Prelude.{ℕ}
use Rattle.tk_client.specs.declared.fault.Fault.{Fault}
use Rattle.tk_client.specs.declared.fault.Fault.TheVariants.{Memory, BadJson, BadShape, Gap, UnknownId, Repeated, TooLong, Misfit, Failed}

-- the number that stands for a fault where only a number can
abbrev pub code_of : Fault → ℕ
code_of Memory = 1
code_of BadJson = 2
code_of BadShape = 3
code_of (Gap expected found) = 4
code_of UnknownId = 5
code_of Repeated = 6
code_of TooLong = 7
code_of Misfit = 8
code_of Failed = 9
