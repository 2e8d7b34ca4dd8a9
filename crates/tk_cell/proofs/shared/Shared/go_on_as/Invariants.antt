use Rattle.std.specs.Prelude.{Some}
use Rattle.tk_cell.proofs.shared.Shared.go_on_as.Given as goal

abbrev pub ghosts-go_on_picked : goal.ghosts-go_on_picked
ghosts-go_on_picked g a = record { picked = Some a.number }
