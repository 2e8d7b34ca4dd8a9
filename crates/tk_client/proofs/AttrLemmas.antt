-- Rows that fit, one after the other.
use Rattle.std.proofs.Common.{◌≡◌, ℕ, zero, suc, ◌+◌, List, [], ◌∷◌, length, drop, Bool, true, false, Some, slice_get, refl, ap, sym, add-one}
use Rattle.std.specs.Prelude.{◌&&◌}
use Rattle.std.specs.List.{list_all}
use Rattle.std.proofs.lemmas.Option.{same_Some}
use Rattle.tk_ids.specs.Attributes.{kind_of}
use Rattle.tk_ids.specs.declared.attr.AttrInfo.{AttrInfo}
use Rattle.tk_ids.specs.declared.attr.AttrValue.{AttrValue}
use Rattle.tk_client.specs.Taking.{is_kind, fit_attrs}

pub all_next : {X : Type 0} (p : X → Bool) (xs : List X) (i : ℕ) (x : X) → Some x ≡ slice_get xs i → list_all p (drop i xs) ≡ (p x && list_all p (drop (i + 1) xs))
all_next p xs i x at = rw (add-one i) (at_suc xs i at)
  where
    at_suc : (ys : List _) (j : ℕ) → Some x ≡ slice_get ys j → list_all p (drop j ys) ≡ (p x && list_all p (drop (suc j) ys))
    at_suc [] j e = absurd (cc)
    at_suc (y ∷ ys) zero e = ap (λ z. p z && list_all p ys) (sym (same_Some x y e))
    at_suc (y ∷ ys) (suc j) e = at_suc ys j e

-- lists of other lengths don't fit
pub other_lengths : (attrs : List AttrInfo) (values : List AttrValue) → (length attrs ≡ length values → ⊥) → fit_attrs attrs values ≡ false
other_lengths [] [] other = absurd (other refl)
other_lengths [] (v ∷ vs) other = refl
other_lengths (a ∷ attrs) [] other = refl
other_lengths (a ∷ attrs) (v ∷ vs) other = by (is_kind (kind_of v) a.kind) (other_lengths attrs vs (λ e. other (ap suc e)))
  where
    by : (b : Bool) → fit_attrs attrs vs ≡ false → (b && fit_attrs attrs vs) ≡ false
    by true e = e
    by false e = refl
