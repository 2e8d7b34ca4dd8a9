use Rattle.std.proofs.Common.{◌≡◌, ◌++◌, drop}
use Rattle.tk_odd.specs.Places.{digits_read, without_numbers}
use Rattle.tk_odd.proofs.place.put_without_numbers.Given as goal

-- what is put, and what the rest will be, are the whole
abbrev pub invariant-loop-byte : goal.invariant-loop-byte
invariant-loop-byte l = l.out.items ++ digits_read l.after (drop l.byte-index l.text) ≡ l.initial.out.items ++ without_numbers l.text
