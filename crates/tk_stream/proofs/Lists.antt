-- Reading a list one value after the other, as a loop does.
use Rattle.std.proofs.Common.{◌≡◌, ℕ, suc, ◌+◌, ◌≤◌, ◌<◌, List, [], ◌∷◌, ◌++◌, length, get_or, drop, Option, Some, None, Ok, Err, refl, sym, ap, ◌∙◌, append_assoc, append-nil, add-one, drop-cons}
use Rattle.std.specs.Prelude.{map, option_map}
use Rattle.std.proofs.lemmas.List.{drop_all}
use Rattle.tk_stream.specs.declared.error.LineError.{LineError}
use Rattle.tk_stream.specs.declared.error.LineError.TheVariants.{Memory, BadJson, BadShape}
use Rattle.tk_stream.specs.Reading.{◌>>=◌, each_of}
use Rattle.tk_stream.specs.Outcome.{Fails, shaped}

-- what was read, and what is still read
abbrev pub with_front : {A : Type 0} → List A → Option (List A) → Option (List A)
with_front front rest = option_map (λ xs. front ++ xs) rest

pub regroup : {A : Type 0} (front : List A) (x : A) (rest : Option (List A)) → with_front front (option_map (λ xs. x ∷ xs) rest) ≡ with_front (front ++ x ∷ []) rest
regroup front x (Some xs) = ap Some (sym (append_assoc front (x ∷ []) xs))
regroup front x None = refl

pub shaped_none : {A : Type 0} (o : Option A) → shaped o ≡ Err BadShape → o ≡ None
shaped_none (Some x) e = absurd (cc)
shaped_none None e = refl

pub shaped_some : {A : Type 0} (o : Option A) (x : A) → shaped o ≡ Ok x → o ≡ Some x
shaped_some (Some y) x e = cc
shaped_some None x e = absurd (cc)

pub never_json : {A : Type 0} (o : Option A) → shaped o ≡ Err BadJson → ⊥
never_json (Some x) e = cc
never_json None e = cc

pub each_of-map : {V D A : Type 0} (view : V → D) (shape : D → Option A) (vs : List V) → each_of shape (map view vs) ≡ each_of (λ v. shape (view v)) vs
each_of-map view shape [] = refl
each_of-map view shape (v ∷ vs) = ap (λ rest. shape (view v) >>= λ x. option_map (λ xs. x ∷ xs) rest) (each_of-map view shape vs)

module _ {V A : Type 0} (shape : V → Option A) (front : List A) (vs : List V) (i : ℕ) (total : Option (List A)) where
  one_step : (v : V) → i < length vs → v ≡ get_or vs i v → drop i vs ≡ v ∷ drop (i + 1) vs
  one_step v lt e = rw add-one (drop-cons vs i v lt ∙ ap (λ x. x ∷ drop (suc i) vs) (sym e))

  pub goes_on : (v : V) (x : A) → i < length vs → v ≡ get_or vs i v → shape v ≡ Some x
      → with_front front (each_of shape (drop i vs)) ≡ total → with_front (front ++ x ∷ []) (each_of shape (drop (i + 1) vs)) ≡ total
  goes_on v x lt e is so_far =
      sym (regroup front x (each_of shape (drop (i + 1) vs)))
      ∙ sym (ap (λ o. with_front front (o >>= λ y. option_map (λ xs. y ∷ xs) (each_of shape (drop (i + 1) vs)))) is)
      ∙ sym (ap (λ l. with_front front (each_of shape l)) (one_step v lt e)) ∙ so_far

  pub stops : (v : V) → i < length vs → v ≡ get_or vs i v → shape v ≡ None → with_front front (each_of shape (drop i vs)) ≡ total → total ≡ None
  stops v lt e is so_far =
      sym so_far ∙ ap (λ l. with_front front (each_of shape l)) (one_step v lt e)
      ∙ ap (λ o. with_front front (o >>= λ y. option_map (λ xs. y ∷ xs) (each_of shape (drop (i + 1) vs)))) is

  pub fails : (err : LineError) (v : V) → i < length vs → v ≡ get_or vs i v → Fails err (shaped (shape v)) → with_front front (each_of shape (drop i vs)) ≡ total → Fails err (shaped total)
  fails Memory v lt e is so_far = tt
  fails BadJson v lt e is so_far = absurd (never_json (shape v) is)
  fails BadShape v lt e is so_far = ap shaped (stops v lt e (shaped_none (shape v) is) so_far)

  pub is_done : length vs ≤ i → with_front front (each_of shape (drop i vs)) ≡ total → total ≡ Some front
  is_done past so_far = sym so_far ∙ ap (λ l. with_front front (each_of shape l)) (drop_all i vs past) ∙ ap Some (append-nil front)
