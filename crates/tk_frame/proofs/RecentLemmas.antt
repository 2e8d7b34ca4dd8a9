-- Places since an earlier moment, one more.
use Rattle.std.proofs.Common.{◌≡◌, ℕ, zero, suc, ◌+◌, ◌<◌, List, [], ◌∷◌, ◌++◌, length, map, take, get_or, refl, ap, ap₂, sym, ◌∙◌, add-one, arith}
use Rattle.std.specs.Prelude.{fold}
use Rattle.std.proofs.lemmas.List.Sums.{fold-append}
use Rattle.tk_frame.specs.Places.{PlaceRow, place_since, put_in, row_of}
use Rattle.tk_frame.specs.declared.places.Place.{Place}
use Rattle.tk_frame.specs.declared.recent.Earlier.{Earlier}

-- each of a list, up to one, and that one
rows_next : (f : PlaceRow → PlaceRow) (xs : List Place) (i : ℕ) (x : Place) → i < length xs → x ≡ get_or xs i x
    → map f (map row_of (take (suc i) xs)) ≡ map f (map row_of (take i xs)) ++ f (row_of x) ∷ []
rows_next f [] i x h at = absurd (omega (arith, h))
rows_next f (y ∷ ys) zero x h at = ap (λ (z : Place). f (row_of z) ∷ []) (sym at)
rows_next f (y ∷ ys) (suc i) x h at = ap (λ rest. f (row_of y) ∷ rest) (rows_next f ys i x (omega (arith, h)) at)

pub since_more : (e : Earlier) (xs : List Place) (i : ℕ) (x : Place) → i < length xs → x ≡ get_or xs i x
    → fold put_in [] (map (place_since e) (map row_of (take (i + 1) xs)))
    ≡ put_in (fold put_in [] (map (place_since e) (map row_of (take i xs)))) (place_since e (row_of x))
since_more e xs i x h at = rw add-one
    (ap (fold put_in []) (rows_next (place_since e) xs i x h at)
    ∙ fold-append put_in [] (map (place_since e) (map row_of (take i xs))) (place_since e (row_of x) ∷ []))
