-- The counts of the tests' own object, a door: how often it was used, and whom its first use makes. Only tests cite this file.
use Rattle.std.proofs.lemmas.Bool.{ne_eqb}
use Rattle.std.proofs.lemmas.Option.{none-some}
use Rattle.std.proofs.Common.{eqb, ◌≡◌, ◌≢◌, ℕ, ◌-◌, ◌^◌, ◌==◌, false, List, [], ◌∷◌, ◌++◌, length, min, Option, Some, None, if◌then◌else◌, arith}

-- a count stays at the greatest u64
abbrev pub capped : ℕ → ℕ
capped n = min n (2 ^ 64 - 1)

-- the first use, which finds none before it, makes caller 1
abbrev pub first_number : ℕ → Option ℕ
first_number reply = if reply == 0 then Some 1 else None

-- no later use makes a caller
pub first_is_new : {C : Type 0} (calls : List C) (n : ℕ) → first_number (capped (length calls)) ≡ Some n
    → (n ≢ 0) × ((before after : List C) (earlier : C) → before ++ earlier ∷ after ≡ calls → first_number (capped (length before)) ≢ Some n)
first_is_new [] n e = ((λ z. cc), λ before after earlier cut. absurd (no_cut before after earlier cut))
  where
    no_cut : {C : Type 0} (before after : List C) (earlier : C) → before ++ earlier ∷ after ≡ [] → ⊥
    no_cut [] after earlier cut = cc
    no_cut (x ∷ before) after earlier cut = cc
first_is_new (c ∷ calls) n e =
    let later : capped (length (c ∷ calls)) ≢ 0 = λ z. omega (arith, z) in
    let t : eqb (capped (length (c ∷ calls))) 0 ≡ false = ne_eqb (capped (length (c ∷ calls))) 0 later in absurd (none-some n (rw t at e))
