-- The numbers of errors.
use Rattle.std.specs.Prelude.{ℕ}
use Rattle.tk_exec.specs.declared.error.ExecError.{ExecError}
use Rattle.tk_exec.specs.declared.error.ExecError.TheVariants.{Memory, Repeated}

-- the number of an error, from 1 on in the order of the variants
abbrev pub code_of : ExecError → ℕ
code_of Memory = 1
code_of Repeated = 2
