use Rattle.std.specs.Prelude.{Some}
use Rattle.tk_cell.proofs.shared.Shared.new.Given as goal

abbrev pub ghosts-begin : goal.ghosts-begin
ghosts-begin g a = record { picked = Some a.row }
