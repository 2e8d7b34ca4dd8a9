-- The last of items, one more.
use Rattle.std.proofs.Common.{◌≡◌, ℕ, ◌+◌, ◌-◌, ◌≤◌, ◌<◌, List, [], ◌∷◌, ◌++◌, length, drop, ap, sym, ◌∙◌, arith}
use Rattle.std.proofs.lemmas.List.{drop-append-le, drop-drop, length-append, length-drop}
use Rattle.tk_watch.specs.Lasts.{last_of}

module _ {X : Type 0} (n : ℕ) (xs : List X) (x : X) where
  all : length (xs ++ x ∷ []) ≡ length xs + 1
  all = length-append xs (x ∷ [])

  some : length (last_of n xs ++ x ∷ []) ≡ length xs - (length xs - n) + 1
  some = length-append (last_of n xs) (x ∷ []) ∙ ap (λ (k : ℕ). k + 1) (length-drop (length xs - n) xs)

  -- there is room for it
  pub last_fits : length (last_of n xs ++ x ∷ []) ≤ n → last_of n xs ++ x ∷ [] ≡ last_of n (xs ++ x ∷ [])
  last_fits h =
      let before : length xs - n ≡ 0 = omega (arith, h, some) in
      let here : length (xs ++ x ∷ []) - n ≡ 0 = omega (arith, h, some, all) in
      ap (λ (k : ℕ). drop k xs ++ x ∷ []) before ∙ sym (ap (λ (k : ℕ). drop k (xs ++ x ∷ [])) here)

  -- the first goes
  pub last_full : n < length (last_of n xs ++ x ∷ []) → drop 1 (last_of n xs ++ x ∷ []) ≡ last_of n (xs ++ x ∷ [])
  last_full h =
      let here : length (xs ++ x ∷ []) - n ≡ length xs - n + 1 = omega (arith, h, some, all) in
      let within : length xs - n ≤ length xs = omega arith in
      ap (drop 1) (sym (drop-append-le (length xs - n) xs (x ∷ []) within))
      ∙ drop-drop 1 (length xs - n) (xs ++ x ∷ [])
      ∙ sym (ap (λ (k : ℕ). drop k (xs ++ x ∷ [])) here)
