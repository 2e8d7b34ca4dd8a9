use Rattle.std.specs.Prelude.{Some}
use Rattle.tk_cell.proofs.shared.Shared.part.Given as goal

abbrev pub ghosts-split_picked : goal.ghosts-split_picked
ghosts-split_picked g a = record { picked = Some a.number }
