-- A piece that is taken line by line.
use Rattle.std.proofs.Common.{◌≡◌, ℕ, ◌+◌, List, ◌++◌, take, drop, sym, ap, ◌∙◌, append_assoc, take-append-drop}
use Rattle.std.proofs.Math.Seq.{take-add}

-- a front of a piece, and the bytes after it
pub more_taken : (front piece : List ℕ) (at n : ℕ) → front ++ take (at + n) piece ≡ (front ++ take at piece) ++ take n (drop at piece)
more_taken front piece at n =
    ap (λ xs. front ++ xs) (take-add at n piece)
    ∙ sym (append_assoc front (take at piece) (take n (drop at piece)))

-- with all that comes after it, it is the piece
pub whole_piece : (front piece : List ℕ) (at : ℕ) → (front ++ take at piece) ++ drop at piece ≡ front ++ piece
whole_piece front piece at =
    append_assoc front (take at piece) (drop at piece)
    ∙ ap (λ xs. front ++ xs) (take-append-drop at piece)
