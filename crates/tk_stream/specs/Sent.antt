-- What sending a text does to the known bytes of a writer.
use Rattle.std.specs.Prelude.{◌≡◌, ℕ, ◌<◌, List, ◌++◌, length, Option, Result, Ok, Err}
use Rattle.std.specs.Io.KnownBytes.{Appends}

-- a proper front of the text
pub record IsCut (text front : List ℕ) : Type 0 where
  pub rest : List ℕ
  pub whole : text ≡ front ++ rest
  pub unsent : 0 < length rest

-- all of the text went out, or a proper front of it
abbrev pub Sends : {E : Type 0} → Option (List ℕ) → Option (List ℕ) → List ℕ → Result (Unit {0}) E → Type 0
Sends old new text (Ok done) = Appends old new text
Sends old new text (Err e) = (front : List ℕ) × IsCut text front × Appends old new front
