-- A text that is cut at each of one byte.
use Rattle.std.specs.Prelude.{ℕ, List, [], ◌==◌, Option}
use Rattle.std.specs.Borrow.{Bor}
use Rattle.std.specs.List.{slice_split}
use Rattle.std.specs.Option.{option_map_or}
use Rattle.tk_script.specs.declared.pieces.Pieces.{Pieces}

-- the pieces between the bytes: one more than there are such bytes
abbrev pub pieces_at : ℕ → List ℕ → List (List ℕ)
pieces_at byte = slice_split (λ b. b == byte)

-- the pieces of what is left, if anything is
abbrev pub pieces_of_rest : ℕ → Option (Bor (List ℕ)) → List (List ℕ)
pieces_of_rest byte rest = option_map_or (λ text. pieces_at byte text.now) rest []

-- the pieces that are still to come
abbrev pub pieces_left : Pieces → List (List ℕ)
pieces_left p = pieces_of_rest p.byte p.rest
