-- What a poll of a connection does.
use Rattle.std.specs.Prelude.{◌≡◌, ◌+◌}
use Rattle.futures.specs.declared.task.Poll.{Poll}
use Rattle.futures.specs.declared.task.Poll.TheVariants.{Ready, Pending}
use Rattle.tk_ledgers.specs.Scopes.{Scoped}
use Rattle.tk_exec.specs.Scopes.{WakesItself}
use Rattle.example_service.specs.declared.connection.Connection.{Connection}

-- it is ready exactly where no request is left, and makes no call then; otherwise it serves one, and wakes itself
abbrev pub serves : Connection → Scoped → Poll (Unit {0}) → Connection → Scoped → Type 0
serves connection scope (Ready x) after scope' = (connection.requests ≡ 0) × (scope' ≡ scope)
serves connection scope Pending after scope' = (after.requests + 1 ≡ connection.requests) × WakesItself scope scope'
