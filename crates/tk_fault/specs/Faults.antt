-- The numbers of faults, and what is told of them.
use Rattle.std.specs.Prelude.{ℕ, List, ◌++◌, codes, decimal}
use Rattle.tk_client.specs.declared.fault.Fault.{Fault}
use Rattle.tk_client.specs.declared.fault.Fault.TheVariants as client
use Rattle.tk_fault.specs.declared.fault.AppFault.{AppFault}
use Rattle.tk_fault.specs.declared.fault.AppFault.TheVariants.{Memory, Read, Write, Script, Stream}

-- each fault has a number of its own
abbrev pub code_of : AppFault → ℕ
code_of Memory = 1
code_of Read = 2
code_of Write = 3
code_of (Script line name) = 4
code_of (Stream lines fault) = 5

-- the name of a stream's fault
abbrev pub name_of : Fault → List ℕ
name_of client.Memory = codes "Memory"
name_of client.BadJson = codes "BadJson"
name_of client.BadShape = codes "BadShape"
name_of (client.Gap expected found) = codes "Gap"
name_of client.UnknownId = codes "UnknownId"
name_of client.Repeated = codes "Repeated"
name_of client.TooLong = codes "TooLong"
name_of client.Misfit = codes "Misfit"
name_of client.Failed = codes "Failed"

-- a stream's fault: its name, and of a gap its numbers
abbrev pub fault_text : Fault → List ℕ
fault_text (client.Gap expected found) = codes "Gap expected " ++ (decimal expected ++ (codes " found " ++ decimal found))
fault_text fault = name_of fault

-- a stream's fault, and after how many lines it comes
abbrev pub stream_text : ℕ → Fault → List ℕ
stream_text lines fault = codes "stream after " ++ (decimal lines ++ (codes " lines: " ++ fault_text fault))

-- what is told of a fault
abbrev pub text_of : AppFault → List ℕ
text_of Memory = codes "Memory"
text_of Read = codes "Read"
text_of Write = codes "Write"
text_of (Script line name) = codes "line " ++ (decimal line ++ (codes ": " ++ name.now))
text_of (Stream lines fault) = stream_text lines fault
