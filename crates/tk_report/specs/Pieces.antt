-- A text that is put after what is written.
use Rattle.std.specs.Prelude.{◌≡◌, ℕ, List, [], ◌∷◌, ◌++◌}

-- the piece was put after what was written
pub record Puts (old new piece : List ℕ) : Type 0 where
  pub is : new ≡ old ++ piece

-- words, each with a space before it
abbrev pub spaced : List (List ℕ) → List ℕ
spaced [] = []
spaced (word ∷ words) = 32 ∷ (word ++ spaced words)
