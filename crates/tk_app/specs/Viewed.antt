-- What a view needs of the run of a script.
use Rattle.std.specs.Prelude.{◌≡◌, codes, Result, Err}
use Rattle.tk_fault.specs.declared.fault.AppFault.{AppFault}
use Rattle.tk_fault.specs.declared.fault.AppFault.TheVariants as faults

-- the run stopped at a fault of the writer, which may have taken a front of a line
abbrev pub WriterFailed : Result (Unit {0}) AppFault → Type 0
WriterFailed (Err (faults.Script number name)) = name.now ≡ codes "WriteFault"
WriterFailed result = ⊥
