-- Flags and moments are read back from their words.
use Rattle.std.proofs.Common.{◌≡◌, ℕ, ◌+◌, ◌*◌, ◌/◌, ◌%◌, Bool, true, false, cond, Option, Some, None, refl, arith}
use Rattle.std.specs.Prelude.{is_some, ◌==◌}
use Rattle.std.proofs.lemmas.Bool.Decides.{nat_tests}
use Rattle.tk_core.specs.Words.{word_of}

-- the lowest bit
pub low_bit : (bit : Bool) (rest : ℕ) → ((cond bit 1 0 + 2 * rest) % 2 == 1) ≡ bit
low_bit true rest = grind (arith, nat_tests)
low_bit false rest = grind (arith, nat_tests)

-- the bits above it
pub high_bits : (bit : Bool) (rest : ℕ) → (cond bit 1 0 + 2 * rest) / 2 ≡ rest
high_bits true rest = omega arith
high_bits false rest = omega arith

-- a moment, by its flag and its word
pub moment : (o : Option ℕ) → cond (is_some o) (Some (word_of o)) None ≡ o
moment None = refl
moment (Some m) = refl
