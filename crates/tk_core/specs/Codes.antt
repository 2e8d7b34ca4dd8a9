-- The numbers of refusals.
use Rattle.std.specs.Prelude.{ℕ}
use Rattle.tk_core.specs.declared.reply.Refusal.{Refusal}
use Rattle.tk_core.specs.declared.reply.Refusal.TheVariants.{AlreadyPolling, NotPolling, Closed, HandlesSpent, NoAttribute, WrongKind, OutOfRange, Memory}

-- each refusal has a number of its own
abbrev pub code_of : Refusal → ℕ
code_of AlreadyPolling = 1
code_of NotPolling = 2
code_of Closed = 3
code_of HandlesSpent = 4
code_of NoAttribute = 5
code_of WrongKind = 6
code_of OutOfRange = 7
code_of Memory = 8
