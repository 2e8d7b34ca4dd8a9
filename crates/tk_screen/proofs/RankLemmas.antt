-- Items in the order of a ranking.
use Rattle.std.proofs.Common.{◌≡◌, ℕ, zero, suc, ◌+◌, ◌-◌, ◌≤◌, ◌<◌, List, [], ◌∷◌, ◌++◌, length, take, slice_get, Bool, true, false, cond, not, nat_lt, Some, None, refl, ap, sym, ◌∙◌, arith, subst}
use Rattle.std.specs.Prelude.{fold, position, ◌==◌}
use Rattle.std.specs.List.{insert, position_or_len}
use Rattle.std.proofs.lemmas.Bool.{eqb-true, ltb-true, ltb-false, le-ltb}
use Rattle.std.proofs.lemmas.List.{append-nil, append_assoc}
use Rattle.tk_screen.specs.declared.top.Ranked.{Ranked}
use Rattle.tk_screen.specs.Rankings.{ranked_in, place_of, ranking, kept, with_key, AreAtMost, NeverRise, IsRanking}

pub within : (key : ℕ) (ys : List Ranked) → place_of key ys ≤ length ys
within key [] = omega arith
within key (y ∷ ys) = by (within key ys) (nat_lt y.key key)
  where
    by : place_of key ys ≤ length ys → (b : Bool) → cond b 0 (suc (place_of key ys)) ≤ suc (length ys)
    by h true = omega arith
    by h false = omega arith

-- an item is put in at its place
pub put_in : (x : Ranked) (ys : List Ranked) → insert ys (place_of x.key ys) x ≡ ranked_in x ys
put_in x [] = refl
put_in x (y ∷ ys) = by (put_in x ys) (nat_lt y.key x.key)
  where
    by : insert ys (place_of x.key ys) x ≡ ranked_in x ys → (b : Bool) → insert (y ∷ ys) (cond b 0 (suc (place_of x.key ys))) x ≡ cond b (x ∷ y ∷ ys) (y ∷ ranked_in x ys)
    by h true = refl
    by h false = ap (λ zs. y ∷ zs) h

-- where the first item of a smaller key stands, as std finds it
pub place_is : (key : ℕ) (ys : List Ranked) → position_or_len (λ y. nat_lt y.key key) ys ≡ place_of key ys
place_is key [] = refl
place_is key (y ∷ ys) = by (place_is key ys) (nat_lt y.key key)
  where
    by : position_or_len (λ z. nat_lt z.key key) ys ≡ place_of key ys → (b : Bool) → cond (not b) (1 + position_or_len (λ z. nat_lt z.key key) ys) 0 ≡ cond b 0 (suc (place_of key ys))
    by h true = refl
    by h false = omega arith

pub place_some : (key i : ℕ) (ys : List Ranked) → position (λ y. nat_lt y.key key) ys ≡ Some i → i ≡ place_of key ys
place_some key i ys e = by (nat_lt (position_or_len (λ y. nat_lt y.key key) ys) (length ys)) e ∙ place_is key ys
  where
    by : (b : Bool) → cond b (Some (position_or_len (λ y. nat_lt y.key key) ys)) None ≡ Some i → i ≡ position_or_len (λ y. nat_lt y.key key) ys
    by true h = cc
    by false h = absurd (cc)

pub place_none : (key : ℕ) (ys : List Ranked) → position (λ y. nat_lt y.key key) ys ≡ None → length ys ≡ place_of key ys
place_none key ys e = by (nat_lt (position_or_len (λ y. nat_lt y.key key) ys) (length ys)) refl e
  where
    by : (b : Bool) → nat_lt (position_or_len (λ y. nat_lt y.key key) ys) (length ys) ≡ b → cond b (Some (position_or_len (λ y. nat_lt y.key key) ys)) None ≡ None → length ys ≡ place_of key ys
    by true g h = absurd (cc)
    by false g h =
        let low = ltb-false _ _ g in
        let most = within key ys in
        let same = place_is key ys in omega arith

-- ---- keys fall

at_most-less : (a b : ℕ) (ys : List Ranked) → a ≤ b → AreAtMost a ys → AreAtMost b ys
at_most-less a b [] h g = tt
at_most-less a b (y ∷ ys) h g = let k = g.0 in (omega arith, at_most-less a b ys h g.1)

at_most-in : (key : ℕ) (x : Ranked) (ys : List Ranked) → x.key ≤ key → AreAtMost key ys → AreAtMost key (ranked_in x ys)
at_most-in key x [] h g = (h, tt)
at_most-in key x (y ∷ ys) h g = by (at_most-in key x ys h g.1) (nat_lt y.key x.key)
  where
    by : AreAtMost key (ranked_in x ys) → (b : Bool) → AreAtMost key (cond b (x ∷ y ∷ ys) (y ∷ ranked_in x ys))
    by k true = (h, g)
    by k false = (g.0, k)

pub falls-in : (x : Ranked) (ys : List Ranked) → NeverRise ys → NeverRise (ranked_in x ys)
falls-in x [] f = (tt, tt)
falls-in x (y ∷ ys) f = by (falls-in x ys f.1) (nat_lt y.key x.key) refl
  where
    by : NeverRise (ranked_in x ys) → (b : Bool) → nat_lt y.key x.key ≡ b → NeverRise (cond b (x ∷ y ∷ ys) (y ∷ ranked_in x ys))
    by r true e =
        let h = ltb-true y.key x.key e in
        let k : y.key ≤ x.key = omega arith in
        ((k, at_most-less y.key x.key ys k f.0), f)
    by r false e = (at_most-in y.key x ys (ltb-false y.key x.key e) f.0, r)

at_most-take : (key n : ℕ) (ys : List Ranked) → AreAtMost key ys → AreAtMost key (take n ys)
at_most-take key zero ys g = tt
at_most-take key (suc n) [] g = tt
at_most-take key (suc n) (y ∷ ys) g = (g.0, at_most-take key n ys g.1)

pub falls-take : (n : ℕ) (ys : List Ranked) → NeverRise ys → NeverRise (take n ys)
falls-take zero ys f = tt
falls-take (suc n) [] f = tt
falls-take (suc n) (y ∷ ys) f = (at_most-take y.key n ys f.0, falls-take n ys f.1)

-- ---- an item past the last

at_most-of : (key i : ℕ) (ys : List Ranked) (x : Ranked) → AreAtMost key ys → slice_get ys i ≡ Some x → x.key ≤ key
at_most-of key i [] x g e = absurd (cc)
at_most-of key zero (y ∷ ys) x g e = let same : y ≡ x = some-is y x e in subst (λ (z : Ranked). z.key ≤ key) same g.0
  where
    some-is : (a b : Ranked) → Some a ≡ Some b → a ≡ b
    some-is a b h = cc
at_most-of key (suc i) (y ∷ ys) x g e = at_most-of key i ys x g.1 e

pub past : (key i : ℕ) (ys : List Ranked) (x : Ranked) → NeverRise ys → slice_get ys i ≡ Some x → length ys ≡ i + 1 → key ≤ x.key → place_of key ys ≡ length ys
past key i [] x f e n h = absurd (cc)
past key zero (y ∷ []) x f e n h =
    let same : y ≡ x = some-is y x e in
    let k : key ≤ y.key = subst (λ (z : Ranked). key ≤ z.key) (sym same) h in rw (le-ltb y.key key k) refl
  where
    some-is : (a b : Ranked) → Some a ≡ Some b → a ≡ b
    some-is a b g = cc
past key zero (y ∷ z ∷ ys) x f e n h = absurd (omega arith)
past key (suc i) (y ∷ ys) x f e n h =
    let below = at_most-of y.key i ys x f.0 e in
    let k : key ≤ y.key = omega arith in
    let rest = past key i ys x f.1 e (omega arith) h in
    rw (le-ltb y.key key k, rest) refl

pub past_last : (key : ℕ) (ys : List Ranked) (x : Ranked) → NeverRise ys → slice_get ys (length ys - 1) ≡ Some x → key ≤ x.key → place_of key ys ≡ length ys
past_last key [] x f e h = refl
past_last key (y ∷ ys) x f e h =
    let n : length (y ∷ ys) - 1 ≡ length ys = omega arith in
    past key (length ys) (y ∷ ys) x f (subst (λ i. slice_get (y ∷ ys) i ≡ Some x) n e) (omega arith) h

pub not_in : (x : Ranked) (ys : List Ranked) → place_of x.key ys ≡ length ys → take (length ys) (ranked_in x ys) ≡ ys
not_in x [] e = refl
not_in x (y ∷ ys) e = by (not_in x ys) (nat_lt y.key x.key) e
  where
    by : (place_of x.key ys ≡ length ys → take (length ys) (ranked_in x ys) ≡ ys) → (b : Bool) → cond b 0 (suc (place_of x.key ys)) ≡ suc (length ys) → take (suc (length ys)) (cond b (x ∷ y ∷ ys) (y ∷ ranked_in x ys)) ≡ y ∷ ys
    by r true h = absurd (omega arith)
    by r false h = ap (λ zs. y ∷ zs) (r (omega arith))

-- ---- one more is offered

pub offered : (items out after : List Ranked) (x : Ranked) (place room : ℕ) → out ≡ insert items place x → place ≡ place_of x.key items → after ≡ take room out
    → after ≡ take room (ranked_in x items)
offered items out after x place room a b t = t ∙ ap (λ ys. take room ys) (a ∙ ap (λ p. insert items p x) b ∙ put_in x items)

pub falls_on : (items after : List Ranked) (x : Ranked) (room : ℕ) → NeverRise items → after ≡ take room (ranked_in x items) → NeverRise after
falls_on items after x room f e = subst NeverRise (sym e) (falls-take room (ranked_in x items) (falls-in x items f))

-- ---- the front of a ranking

take-again : (n : ℕ) (y : Ranked) (ys : List Ranked) → take n (y ∷ take n ys) ≡ take n (y ∷ ys)
take-again zero y ys = refl
take-again (suc n) y [] = refl
take-again (suc n) y (z ∷ ys) = ap (λ zs. y ∷ zs) (take-again n z ys)

keep : (n : ℕ) (x : Ranked) (ys : List Ranked) → take n (ranked_in x (take n ys)) ≡ take n (ranked_in x ys)
keep zero x ys = refl
keep (suc n) x [] = refl
keep (suc n) x (y ∷ ys) = by (keep n x ys) (nat_lt y.key x.key)
  where
    by : take n (ranked_in x (take n ys)) ≡ take n (ranked_in x ys) → (b : Bool) → take (suc n) (cond b (x ∷ y ∷ take n ys) (y ∷ ranked_in x (take n ys))) ≡ take (suc n) (cond b (x ∷ y ∷ ys) (y ∷ ranked_in x ys))
    by r true = ap (λ zs. x ∷ zs) (take-again n y ys)
    by r false = ap (λ zs. y ∷ zs) r

front : (n : ℕ) (a xs : List Ranked) → fold (λ ys x. take n (ranked_in x ys)) (take n a) xs ≡ take n (fold (λ ys x. ranked_in x ys) a xs)
front n a [] = refl
front n a (x ∷ xs) = rw (keep n x a) (front n (ranked_in x a) xs)

take-none : (n : ℕ) → take {A = Ranked} n [] ≡ []
take-none zero = refl
take-none (suc n) = refl

pub kept_is_front : (n : ℕ) (xs : List Ranked) → kept n xs ≡ take n (ranking xs)
kept_is_front n xs = ap (λ a. fold (λ ys x. take n (ranked_in x ys)) a xs) (sym (take-none n)) ∙ front n [] xs

-- ---- a ranking is one

-- nothing has a key above all
none_with : (key most : ℕ) (ys : List Ranked) → AreAtMost most ys → most < key → with_key key ys ≡ []
none_with key most [] g h = refl
none_with key most (y ∷ ys) g h = by (none_with key most ys g.1 h) (y.key == key) refl
  where
    by : with_key key ys ≡ [] → (b : Bool) → (y.key == key) ≡ b → cond b (y ∷ with_key key ys) (with_key key ys) ≡ []
    by r true e = let same = eqb-true y.key key e in let low = g.0 in absurd (omega arith)
    by r false e = r

-- an item is put after those of its key
with_key-in : (key : ℕ) (x : Ranked) (ys : List Ranked) → NeverRise ys → with_key key (ranked_in x ys) ≡ with_key key ys ++ with_key key (x ∷ [])
with_key-in key x [] f = refl
with_key-in key x (y ∷ ys) f = by (with_key-in key x ys f.1) (nat_lt y.key x.key) refl
  where
    at : y.key < x.key → (c : Bool) → (x.key == key) ≡ c → cond c (x ∷ with_key key (y ∷ ys)) (with_key key (y ∷ ys)) ≡ with_key key (y ∷ ys) ++ cond c (x ∷ []) []
    at low true e =
        let same = eqb-true x.key key e in
        let below : y.key < key = omega arith in
        rw (none_with key y.key (y ∷ ys) (omega arith, f.0) below) refl
    at low false e = sym (append-nil (with_key key (y ∷ ys)))

    on : with_key key (ranked_in x ys) ≡ with_key key ys ++ with_key key (x ∷ []) → (c : Bool)
        → cond c (y ∷ with_key key (ranked_in x ys)) (with_key key (ranked_in x ys)) ≡ cond c (y ∷ with_key key ys) (with_key key ys) ++ with_key key (x ∷ [])
    on r true = ap (λ zs. y ∷ zs) r
    on r false = r

    by : with_key key (ranked_in x ys) ≡ with_key key ys ++ with_key key (x ∷ []) → (b : Bool) → nat_lt y.key x.key ≡ b
        → with_key key (cond b (x ∷ y ∷ ys) (y ∷ ranked_in x ys)) ≡ with_key key (y ∷ ys) ++ with_key key (x ∷ [])
    by r true e = at (ltb-true y.key x.key e) (x.key == key) refl
    by r false e = on r (y.key == key)

first_with : (key : ℕ) (x : Ranked) (xs : List Ranked) → with_key key (x ∷ []) ++ with_key key xs ≡ with_key key (x ∷ xs)
first_with key x xs = by (x.key == key)
  where
    by : (b : Bool) → cond b (x ∷ []) [] ++ with_key key xs ≡ cond b (x ∷ with_key key xs) (with_key key xs)
    by true = refl
    by false = refl

ranks_on : (a xs : List Ranked) → NeverRise a → NeverRise (fold (λ ys x. ranked_in x ys) a xs)
ranks_on a [] f = f
ranks_on a (x ∷ xs) f = ranks_on (ranked_in x a) xs (falls-in x a f)

with_key-on : (key : ℕ) (a xs : List Ranked) → NeverRise a → with_key key (fold (λ ys x. ranked_in x ys) a xs) ≡ with_key key a ++ with_key key xs
with_key-on key a [] f = sym (append-nil (with_key key a))
with_key-on key a (x ∷ xs) f =
    with_key-on key (ranked_in x a) xs (falls-in x a f)
    ∙ ap (λ zs. zs ++ with_key key xs) (with_key-in key x a f)
    ∙ append_assoc (with_key key a) (with_key key (x ∷ [])) (with_key key xs)
    ∙ ap (λ zs. with_key key a ++ zs) (first_with key x xs)

pub ranking_is : (xs : List Ranked) → IsRanking xs (ranking xs)
ranking_is xs = record { falls = ranks_on [] xs tt; stable = λ key. with_key-on key [] xs tt }
