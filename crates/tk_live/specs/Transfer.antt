-- What reading a whole script does to the known bytes.
use Rattle.std.specs.Prelude.{◌≡◌, ℕ, ◌≤◌, List, length, Option, IfSome}
use Rattle.tk_fault.specs.declared.fault.AppFault.{AppFault}
use Rattle.tk_fault.specs.declared.fault.AppFault.TheVariants as faults

-- the reader had these bytes and no others, where its bytes are known
abbrev pub Held : Option (List ℕ) → List ℕ → Type 0
Held known bytes = IfSome known (λ xs. xs ≡ bytes)

-- a script that is read whole: at most 1,048,576 bytes
abbrev pub IsScript : Option (List ℕ) → List ℕ → Type 0
IsScript known script = Held known script × (length script ≤ 1048576)

-- a script isn't read for want of memory, or by a fault of the reader
abbrev pub IsReading : AppFault → Type 0
IsReading faults.Memory = Unit {0}
IsReading faults.Read = Unit {0}
IsReading other = ⊥
