-- Words: how flags and moments stand in them. Inner: no crate above cites it.
use Rattle.std.specs.Prelude.{ℕ, ◌+◌, ◌*◌, Bool, if◌then◌else◌, List, [], ◌∷◌, Option, unwrap_or}

-- the number whose bits these are, the lowest first
abbrev pub number_of_bits : List Bool → ℕ
number_of_bits [] = 0
number_of_bits (bit ∷ bits) = (if bit then 1 else 0) + 2 * number_of_bits bits

-- an absent moment has the word 0
abbrev pub word_of : Option ℕ → ℕ
word_of moment = unwrap_or moment 0
