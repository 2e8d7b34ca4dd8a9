-- Which number an error of an aggregator has.
use Rattle.std.specs.Prelude.{ℕ}
use Rattle.tk_aggregator.specs.declared.stream_error.StreamError.{StreamError}
use Rattle.tk_aggregator.specs.declared.stream_error.StreamError.TheVariants.{Memory, WriteFault, Broken, Clock, NumbersSpent}

-- the number that stands for an error where only a number can
abbrev pub code_of : StreamError → ℕ
code_of Memory = 1
code_of WriteFault = 2
code_of Broken = 3
code_of Clock = 4
code_of NumbersSpent = 5
