-- Signed numbers that 64 bits hold.
use Rattle.std.proofs.Common.{◌≡◌, true, ℤ, arith}
use Rattle.std.specs.Prelude.{FitsSigned}
use Rattle.std.specs.Int.{w64, cast_unsigned, cast_signed}
use Rattle.std.proofs.lemmas.Int.{ints, to_z-of_z}
use Rattle.tk_core.specs.Attributes.{is_i64}

-- they are those that fit an `i64`
pub i64_fits : (n : ℤ) → is_i64 n ≡ true → FitsSigned w64 n
i64_fits n is = grind (arith, ints)

pub fits_i64 : (n : ℤ) → FitsSigned w64 n → is_i64 n ≡ true
fits_i64 n fits = grind (arith, ints)

-- and are read back from their 64 bits
pub signed_back : (n : ℤ) → is_i64 n ≡ true → cast_signed w64 (cast_unsigned w64 n) ≡ n
signed_back n is = to_z-of_z w64 n (i64_fits n is)
