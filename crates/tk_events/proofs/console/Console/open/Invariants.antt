use Rattle.std.proofs.Common.{Some}
use Rattle.tk_events.proofs.console.Console.open.Given as goal

abbrev pub ghosts-open : goal.ghosts-open
ghosts-open a = record { picked = Some a.recorders }
