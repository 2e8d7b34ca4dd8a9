-- Series: what has the same labels is one series, whose value is what all of it adds up to.
use Rattle.std.specs.Prelude.{ℕ, List, [], ◌∷◌, map, filter, fold, Bool, if◌then◌else◌}
use Rattle.std.specs.List.{list_any}
use Rattle.std.specs.Str.{bytes_eq}

-- the values of what has these labels
abbrev pub values_at : {V : Type 0} → List ℕ → List (List ℕ × V) → List V
values_at labels xs = map (λ x. x.1) (filter (λ x. bytes_eq labels x.0) xs)

-- whether these labels are among others
abbrev pub is_seen : List (List ℕ) → List ℕ → Bool
is_seen seen labels = list_any (bytes_eq labels) seen

-- where `plus` adds up two values: the first of each labels, to which the later ones of the same labels are added; what has labels
-- that were seen before is none
abbrev pub series_after : {V : Type 0} → (V → V → V) → List (List ℕ) → List (List ℕ × V) → List (List ℕ × V)
series_after plus seen [] = []
series_after plus seen ((labels, value) ∷ xs) =
    if is_seen seen labels then series_after plus seen xs else
    (labels, fold plus value (values_at labels xs)) ∷ series_after plus (labels ∷ seen) xs

-- the series of these values, in the order in which their labels first appear
abbrev pub series_of : {V : Type 0} → (V → V → V) → List (List ℕ × V) → List (List ℕ × V)
series_of plus xs = series_after plus [] xs

-- series with a value more: it is added to the one with its labels, or goes last where there is none
abbrev pub with_value : {V : Type 0} → (V → V → V) → List ℕ → V → List (List ℕ × V) → List (List ℕ × V)
with_value plus labels value [] = (labels, value) ∷ []
with_value plus labels value (x ∷ xs) =
    if bytes_eq labels x.0 then (x.0, plus x.1 value) ∷ xs else x ∷ with_value plus labels value xs
