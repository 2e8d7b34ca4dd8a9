-- Which number an error has, and which error a text gives from which no value was read.
use Rattle.std.specs.Prelude.{ℕ}
use Rattle.tk_json.specs.declared.fault.JsonFault.{JsonFault}
use Rattle.tk_json.specs.declared.fault.JsonFault.TheVariants as json
use Rattle.tk_stream.specs.declared.error.LineError.{LineError}
use Rattle.tk_stream.specs.declared.error.LineError.TheVariants.{Memory, BadJson, BadShape}

-- the number that stands for an error where only a number can
abbrev pub code_of : LineError → ℕ
code_of Memory = 1
code_of BadJson = 2
code_of BadShape = 3

-- why a text from which no value was read is no line
abbrev pub fault_of : JsonFault → LineError
fault_of json.Memory = Memory
fault_of json.BadJson = BadJson
