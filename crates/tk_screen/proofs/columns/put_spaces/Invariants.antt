use Rattle.std.specs.Prelude.{string_bytes}
use Rattle.tk_screen.specs.Texts.{Puts, spaces}
use Rattle.tk_screen.proofs.columns.put_spaces.Given as goal

-- the spaces so far
abbrev pub invariant-loop : goal.invariant-loop
invariant-loop l = Puts (string_bytes l.initial.out) (string_bytes l.out) (spaces l.counter)
