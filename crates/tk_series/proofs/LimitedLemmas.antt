-- A value more in limited series.
use Rattle.std.proofs.Common.{◌≡◌, ◌≤◌, ◌<◌, ℕ, zero, suc, List, [], ◌∷◌, ◌++◌, length, take, map, filter, Bool, true, false, cond, ◌||◌, ◌&&◌, Option, Some, None, refl, ap, ap₂, sym, subst, ◌∙◌, append-nil, append_assoc, arith, nat_lt}
use Rattle.std.specs.Prelude.{not}
use Rattle.std.specs.List.{list_all, list_any}
use Rattle.std.specs.Option.{option_map_or}
use Rattle.std.specs.Str.{bytes_eq}
use Rattle.std.specs.Cmp.Lexicographic.{nat_list_eq_equiv}
use Rattle.std.proofs.lemmas.List.{map-append}
use Rattle.std.proofs.lemmas.List.Elements.{filter-append}
use Rattle.std.proofs.lemmas.List.Sums.{fold-append}
use Rattle.tk_series.specs.Series.{is_seen, series_of, with_value}
use Rattle.tk_series.proofs.SeriesLemmas.{series_of-more, shown}
use Rattle.std.specs.Map.{lookup}
use Rattle.std.proofs.Common.{Vec, Global, is_some}
use Rattle.tk_series.specs.Limited.{LimitedView, all_of, first_of, limited, names_of, rest_of, values_beside, with_one}
use Rattle.tk_series.proofs.NameLemmas.{both, name_added, name_known}

lt_zero : (n : ℕ) → nat_lt 0 (suc n) ≡ true
lt_zero n = grind arith

lt_suc : (a b : ℕ) → nat_lt (suc a) (suc b) ≡ nat_lt a b
lt_suc a b = by (nat_lt a b) refl
  where
    by : (c : Bool) → nat_lt a b ≡ c → nat_lt (suc a) (suc b) ≡ c
    by true e = grind arith
    by false e = grind arith

module _ {V : Type 0} (plus : V → V → V) (l : List ℕ) (v : V) where
  -- ---- the first series

  -- the first series that a value is added to: its own is one of them, or it goes last, or none of them is it
  taken : (n : ℕ) (xs : List (List ℕ × V)) → take n (with_value plus l v xs)
      ≡ cond (is_seen (names_of (take n xs)) l || nat_lt (length (take n xs)) n) (with_value plus l v (take n xs)) (take n xs)
  taken zero [] = refl
  taken zero (x ∷ xs) = by (bytes_eq l x.0)
    where
      by : (b : Bool) → take 0 (cond b ((x.0, plus x.1 v) ∷ xs) (x ∷ with_value plus l v xs)) ≡ []
      by true = refl
      by false = refl
  taken (suc n) [] = ap (λ ys. (l, v) ∷ ys) (none n) ∙ ap (λ b. cond b ((l, v) ∷ []) []) (sym (lt_zero n))
    where
      none : (m : ℕ) → take {A = List ℕ × V} m [] ≡ []
      none zero = refl
      none (suc m) = refl
  taken (suc n) (x ∷ xs) = by (bytes_eq l x.0) (taken n xs)
    where
      inner : Bool
      inner = is_seen (names_of (take n xs)) l || nat_lt (length (take n xs)) n

      same : (nat_lt (suc (length (take n xs))) (suc n)) ≡ nat_lt (length (take n xs)) n
      same = lt_suc (length (take n xs)) n

      at : (c : Bool) → x ∷ cond c (with_value plus l v (take n xs)) (take n xs) ≡ cond c (x ∷ with_value plus l v (take n xs)) (x ∷ take n xs)
      at true = refl
      at false = refl

      by : (b : Bool) → take n (with_value plus l v xs) ≡ cond inner (with_value plus l v (take n xs)) (take n xs)
          → take (suc n) (cond b ((x.0, plus x.1 v) ∷ xs) (x ∷ with_value plus l v xs))
          ≡ cond ((b || is_seen (names_of (take n xs)) l) || nat_lt (suc (length (take n xs))) (suc n)) (cond b ((x.0, plus x.1 v) ∷ take n xs) (x ∷ with_value plus l v (take n xs))) (x ∷ take n xs)
      by true more = refl
      by false more = ap (λ ys. x ∷ ys) more ∙ at inner ∙ ap (λ c. cond (is_seen (names_of (take n xs)) l || c) (x ∷ with_value plus l v (take n xs)) (x ∷ take n xs)) (sym same)

  -- ---- the rest

  beside-more : (names : List (List ℕ)) (xs : List (List ℕ × V)) → values_beside names (xs ++ (l, v) ∷ []) ≡ values_beside names xs ++ cond (not (is_seen names l)) (v ∷ []) []
  beside-more names xs =
      ap (map (λ (x : List ℕ × V). x.1)) (filter-append (λ (x : List ℕ × V). not (is_seen names x.0)) xs ((l, v) ∷ []))
      ∙ map-append (λ (x : List ℕ × V). x.1) (filter (λ (x : List ℕ × V). not (is_seen names x.0)) xs) (cond (not (is_seen names l)) ((l, v) ∷ []) [])
      ∙ ap (λ ys. values_beside names xs ++ ys) (one (not (is_seen names l)))
    where
      one : (b : Bool) → map (λ (x : List ℕ × V). x.1) (cond b ((l, v) ∷ []) []) ≡ cond b (v ∷ []) []
      one true = refl
      one false = refl

  all-more : (vs : List V) → all_of plus (vs ++ v ∷ []) ≡ Some (option_map_or (λ rest. plus rest v) (all_of plus vs) v)
  all-more [] = refl
  all-more (w ∷ ws) = ap Some (fold-append plus w ws (v ∷ []))

-- what is all among names has nothing beside them
none_beside : {V : Type 0} (names : List (List ℕ)) (xs : List (List ℕ × V)) → list_all (λ (x : List ℕ × V). is_seen names x.0) xs ≡ true → values_beside names xs ≡ []
none_beside names [] all = refl
none_beside {V} names (x ∷ xs) all =
    let parts = both (is_seen names x.0) (list_all (λ (y : List ℕ × V). is_seen names y.0) xs) all in
    ap (λ b. map (λ (y : List ℕ × V). y.1) (cond (not b) (x ∷ filter (λ (y : List ℕ × V). not (is_seen names y.0)) xs) (filter (λ (y : List ℕ × V). not (is_seen names y.0)) xs))) parts.0
    ∙ none_beside names xs parts.1

-- all of a list that is shorter than its front could be
whole : {A : Type 0} (n : ℕ) (xs : List A) → nat_lt (length (take n xs)) n ≡ true → take n xs ≡ xs
whole zero xs less = absurd (grind arith)
whole (suc n) [] less = refl
whole (suc n) (x ∷ xs) less = ap (λ ys. x ∷ ys) (whole n xs (sym (lt_suc (length (take n xs)) n) ∙ less))

module _ {V : Type 0} (plus : V → V → V) where
  -- each value's series has its labels
  all_named : (before xs : List (List ℕ × V)) → list_all (λ (x : List ℕ × V). is_seen (names_of (series_of plus (before ++ xs))) x.0) xs ≡ true
  all_named before [] = refl
  all_named before (x ∷ xs) =
      ap₂ (λ a b. a && b) (name_added plus before (x ∷ xs) x.0 (ap (λ b. b || list_any (λ (y : List ℕ × V). bytes_eq x.0 y.0) xs) (nat_list_eq_equiv.refl x.0)))
      (subst (λ ys. list_all (λ (y : List ℕ × V). is_seen (names_of (series_of plus ys)) y.0) xs ≡ true) (append_assoc before (x ∷ []) xs) (all_named (before ++ x ∷ []) xs))

  module _ (room : ℕ) (l : List ℕ) (v : V) (xs : List (List ℕ × V)) where
    abbrev first : List (List ℕ × V)
    first = first_of room plus xs

    abbrev names : List (List ℕ)
    names = names_of first

    first-more : first_of room plus (xs ++ (l, v) ∷ []) ≡ cond (is_seen names l || nat_lt (length first) room) (with_value plus l v first) first
    first-more = ap (take room) (series_of-more plus l v xs) ∙ taken plus l v room (series_of plus xs)

    abbrev rest_with : List (List ℕ × V) → Option V
    rest_with ys = all_of plus (values_beside (names_of ys) (xs ++ (l, v) ∷ []))

    -- its series is one of the first
    seen_rest : is_seen names l ≡ true → rest_with (with_value plus l v first) ≡ rest_of room plus xs
    seen_rest seen =
        ap (λ ns. all_of plus (values_beside ns (xs ++ (l, v) ∷ []))) (name_known plus l v first seen)
        ∙ ap (all_of plus) (beside-more plus l v names xs ∙ ap (λ b. values_beside names xs ++ cond (not b) (v ∷ []) []) seen ∙ append-nil (values_beside names xs))

    -- or there is room, so that nothing is beside the first
    roomy_rest : is_seen names l ≡ false → nat_lt (length first) room ≡ true → rest_with (with_value plus l v first) ≡ rest_of room plus xs
    roomy_rest unseen small =
        let all : first ≡ series_of plus xs = whole room (series_of plus xs) small in
        let now : names_of (with_value plus l v first) ≡ names_of (series_of plus (xs ++ (l, v) ∷ [])) =
        ap (λ ys. names_of (with_value plus l v ys)) all ∙ ap names_of (sym (series_of-more plus l v xs)) in
        let before : list_all (λ (x : List ℕ × V). is_seen names x.0) xs ≡ true =
        subst (λ ys. list_all (λ (x : List ℕ × V). is_seen (names_of ys) x.0) xs ≡ true) (sym all) (all_named [] xs) in
        let after : list_all (λ (x : List ℕ × V). is_seen (names_of (with_value plus l v first)) x.0) (xs ++ (l, v) ∷ []) ≡ true =
        subst (λ ns. list_all (λ (x : List ℕ × V). is_seen ns x.0) (xs ++ (l, v) ∷ []) ≡ true) (sym now) (all_named [] (xs ++ (l, v) ∷ [])) in
        ap (all_of plus) (none_beside (names_of (with_value plus l v first)) (xs ++ (l, v) ∷ []) after ∙ sym (none_beside names xs before))

    -- or it is beside them
    full_rest : is_seen names l ≡ false → rest_with first ≡ Some (option_map_or (λ rest. plus rest v) (rest_of room plus xs) v)
    full_rest unseen =
        ap (all_of plus) (beside-more plus l v names xs ∙ ap (λ b. values_beside names xs ++ cond (not b) (v ∷ []) []) unseen)
        ∙ all-more plus l v (values_beside names xs)

    abbrev shows : List (List ℕ × V) → Option V → LimitedView V
    shows own rest = record { room = room; first = own; rest = rest }

    abbrev known : LimitedView V
    known = shows (with_value plus l v first) (rest_of room plus xs)

    abbrev beside : LimitedView V
    beside = shows first (Some (option_map_or (λ rest. plus rest v) (rest_of room plus xs) v))

    pub limited-more : limited room plus (xs ++ (l, v) ∷ []) ≡ with_one plus l v (limited room plus xs)
    limited-more = by (is_seen names l) refl (nat_lt (length first) room) refl
      where
        by : (s : Bool) → is_seen names l ≡ s → (r : Bool) → nat_lt (length first) room ≡ r → limited room plus (xs ++ (l, v) ∷ []) ≡ with_one plus l v (limited room plus xs)
        by true seen r small =
            let is = first-more ∙ ap (λ b. cond (b || nat_lt (length first) room) (with_value plus l v first) first) seen in
            ap₂ shows is (ap rest_with is ∙ seen_rest seen)
            ∙ ap (λ b. cond (b || nat_lt (length first) room) known beside) (sym seen)
        by false unseen true small =
            let is = first-more ∙ ap₂ (λ a b. cond (a || b) (with_value plus l v first) first) unseen small in
            ap₂ shows is (ap rest_with is ∙ roomy_rest unseen small)
            ∙ ap₂ (λ a b. cond (a || b) known beside) (sym unseen) (sym small)
        by false unseen false full =
            let is = first-more ∙ ap₂ (λ a b. cond (a || b) (with_value plus l v first) first) unseen full in
            ap₂ shows is (ap rest_with is ∙ full_rest unseen)
            ∙ ap₂ (λ a b. cond (a || b) known beside) (sym unseen) (sym full)

-- the value of some labels, by the texts of a map's keys
pub lookup-shown : {V : Type 0} (k : List ℕ) (es : List (Vec ℕ Global × V)) → lookup (bytes_eq k) (shown es) ≡ lookup (λ (q : Vec ℕ Global). bytes_eq k q.items) es
lookup-shown k [] = refl
lookup-shown k (e ∷ es) = ap (λ o. cond (bytes_eq k e.0.items) (Some e.1) o) (lookup-shown k es)

-- labels are among those of series where these have a value of them
pub seen-lookup : {V : Type 0} (k : List ℕ) (xs : List (List ℕ × V)) → is_seen (names_of xs) k ≡ is_some (lookup (bytes_eq k) xs)
seen-lookup k [] = refl
seen-lookup {V} k (x ∷ xs) = by (bytes_eq k x.0) (seen-lookup k xs)
  where
    by : (b : Bool) → is_seen (names_of xs) k ≡ is_some (lookup (bytes_eq k) xs) → (b || is_seen (names_of xs) k) ≡ is_some (cond b (Some x.1) (lookup (bytes_eq k) xs))
    by true more = refl
    by false more = more

-- ---- a value more

abbrev pub room_of : {V : Type 0} → LimitedView V → ℕ
room_of s = s.room

-- series of such values, with the rest
abbrev pub of_values : {V : Type 0} → ℕ → Option V → List (List ℕ × V) → LimitedView V
of_values room rest xs = record { room = room; first = xs; rest = rest }

module _ {V : Type 0} (plus : V → V → V) (l : List ℕ) (v : V) (s : LimitedView V) where
  abbrev pub added : LimitedView V
  added = record { room = s.room; first = with_value plus l v s.first; rest = s.rest }

  abbrev pub put_beside : LimitedView V
  put_beside = record { room = s.room; first = s.first; rest = Some (option_map_or (λ rest. plus rest v) s.rest v) }

  -- its labels are there
  pub with_known : (there : V) → Some there ≡ lookup (bytes_eq l) s.first → added ≡ with_one plus l v s
  with_known there found = ap (λ b. cond (b || nat_lt (length s.first) s.room) added put_beside) (sym (seen-lookup l s.first ∙ ap is_some (sym found)))

  -- they are not there, and there is room
  pub with_new : None ≡ lookup (bytes_eq l) s.first → length s.first < s.room → added ≡ with_one plus l v s
  with_new none less =
      let small : nat_lt (length s.first) s.room ≡ true = grind (arith, less) in
      ap₂ (λ a b. cond (a || b) added put_beside) (sym (seen-lookup l s.first ∙ ap is_some (sym none))) (sym small)

  -- or there is none
  pub with_rest : None ≡ lookup (bytes_eq l) s.first → s.room ≤ length s.first → put_beside ≡ with_one plus l v s
  with_rest none full =
      let large : nat_lt (length s.first) s.room ≡ false = grind (arith, full) in
      ap₂ (λ a b. cond (a || b) added put_beside) (sym (seen-lookup l s.first ∙ ap is_some (sym none))) (sym large)
