-- The labels of series, with values more.
use Rattle.std.proofs.Common.{◌≡◌, ℕ, zero, suc, take, List, [], ◌∷◌, ◌++◌, Bool, true, false, cond, ◌||◌, ◌&&◌, refl, ap, sym, subst, ◌∙◌, append-nil, append_assoc, true≢false}
use Rattle.std.specs.List.{list_all, list_any}
use Rattle.std.specs.Cmp.Lexicographic.{nat_list_eq_equiv}
use Rattle.std.specs.Str.{bytes_eq}
use Rattle.std.proofs.lemmas.List.Folds.{list_any-append}
use Rattle.std.proofs.lemmas.Map.Steps.{list_any_congr}
use Rattle.tk_series.specs.Series.{is_seen, series_of, with_value}
use Rattle.tk_series.proofs.SeriesLemmas.{series_of-more}
use Rattle.tk_series.specs.Limited.{Begins, limited, names_of}

begins_itself : (xs : List (List ℕ)) → Begins xs xs
begins_itself xs = record { rest = []; whole = sym (append-nil xs) }

begins_further : (xs ys zs : List (List ℕ)) → Begins xs ys → Begins ys zs → Begins xs zs
begins_further xs ys zs a b = record {
  rest = a.rest ++ b.rest;
  whole = b.whole ∙ ap (λ ws. ws ++ b.rest) a.whole ∙ append_assoc xs a.rest b.rest;
}

-- a name that is there is there in what begins so
pub still_seen : (xs ys : List (List ℕ)) (k : List ℕ) → Begins xs ys → is_seen xs k ≡ true → is_seen ys k ≡ true
still_seen xs ys k b here =
    ap (list_any (bytes_eq k)) b.whole ∙ list_any-append (bytes_eq k) xs b.rest ∙ ap (λ t. t || list_any (bytes_eq k) b.rest) here

pub both : (a b : Bool) → (a && b) ≡ true → (a ≡ true) × (b ≡ true)
both true b h = (refl, h)
both false b h = absurd (true≢false (sym h))

module _ {V : Type 0} (plus : V → V → V) where
  pub names-with : (l : List ℕ) (v : V) (xs : List (List ℕ × V)) → names_of (with_value plus l v xs) ≡ cond (is_seen (names_of xs) l) (names_of xs) (names_of xs ++ l ∷ [])
  names-with l v [] = refl
  names-with l v (x ∷ xs) = by (bytes_eq l x.0) (names-with l v xs)
    where
      pushed : (b : Bool) → x.0 ∷ cond b (names_of xs) (names_of xs ++ l ∷ []) ≡ cond b (x.0 ∷ names_of xs) (x.0 ∷ (names_of xs ++ l ∷ []))
      pushed true = refl
      pushed false = refl

      by : (b : Bool) → names_of (with_value plus l v xs) ≡ cond (is_seen (names_of xs) l) (names_of xs) (names_of xs ++ l ∷ [])
          → names_of (cond b ((x.0, plus x.1 v) ∷ xs) (x ∷ with_value plus l v xs))
          ≡ cond (b || is_seen (names_of xs) l) (x.0 ∷ names_of xs) (x.0 ∷ (names_of xs ++ l ∷ []))
      by true more = refl
      by false more = ap (λ ys. x.0 ∷ ys) more ∙ pushed (is_seen (names_of xs) l)

  -- one value more
  names_next : (l : List ℕ) (v : V) (xs : List (List ℕ × V)) → Begins (names_of xs) (names_of (with_value plus l v xs))
  names_next l v xs = subst (Begins (names_of xs)) (sym (names-with l v xs)) (by (is_seen (names_of xs) l))
    where
      by : (b : Bool) → Begins (names_of xs) (cond b (names_of xs) (names_of xs ++ l ∷ []))
      by true = begins_itself (names_of xs)
      by false = record { rest = l ∷ []; whole = refl }

  -- its name is there
  name_there : (l : List ℕ) (v : V) (xs : List (List ℕ × V)) → bytes_eq l l ≡ true → is_seen (names_of (with_value plus l v xs)) l ≡ true
  name_there l v xs same = ap (λ ns. is_seen ns l) (names-with l v xs) ∙ by (is_seen (names_of xs) l) refl
    where
      last : (b : Bool) → b ≡ true → (is_seen (names_of xs) l || (b || false)) ≡ true
      last true e = at (is_seen (names_of xs) l)
        where
          at : (c : Bool) → (c || true) ≡ true
          at true = refl
          at false = refl
      last false e = absurd (cc)

      by : (b : Bool) → is_seen (names_of xs) l ≡ b → is_seen (cond b (names_of xs) (names_of xs ++ l ∷ [])) l ≡ true
      by true e = e
      by false e = list_any-append (bytes_eq l) (names_of xs) (l ∷ []) ∙ last (bytes_eq l l) same

  -- a name that is there makes no other
  pub name_known : (l : List ℕ) (v : V) (xs : List (List ℕ × V)) → is_seen (names_of xs) l ≡ true → names_of (with_value plus l v xs) ≡ names_of xs
  name_known l v xs seen = names-with l v xs ∙ ap (λ b. cond b (names_of xs) (names_of xs ++ l ∷ [])) seen

  -- many values more
  pub names_front : (before xs : List (List ℕ × V)) → Begins (names_of (series_of plus before)) (names_of (series_of plus (before ++ xs)))
  names_front before [] = subst (λ ys. Begins (names_of (series_of plus before)) (names_of (series_of plus ys))) (sym (append-nil before)) (begins_itself (names_of (series_of plus before)))
  names_front before (x ∷ xs) =
      let here : Begins (names_of (series_of plus before)) (names_of (series_of plus (before ++ x ∷ []))) =
      subst (λ ys. Begins (names_of (series_of plus before)) (names_of ys)) (sym (series_of-more plus x.0 x.1 before)) (names_next x.0 x.1 (series_of plus before)) in
      subst (λ ys. Begins (names_of (series_of plus before)) (names_of (series_of plus ys))) (append_assoc before (x ∷ []) xs)
      (begins_further (names_of (series_of plus before)) (names_of (series_of plus (before ++ x ∷ []))) (names_of (series_of plus ((before ++ x ∷ []) ++ xs))) here (names_front (before ++ x ∷ []) xs))

  -- whose names are all there
  pub names_stay : (before xs : List (List ℕ × V)) → list_all (λ (x : List ℕ × V). is_seen (names_of (series_of plus before)) x.0) xs ≡ true
      → names_of (series_of plus (before ++ xs)) ≡ names_of (series_of plus before)
  names_stay before [] all = ap (λ ys. names_of (series_of plus ys)) (append-nil before)
  names_stay before (x ∷ xs) all =
      let names = names_of (series_of plus before) in
      let parts = both (is_seen names x.0) (list_all (λ (y : List ℕ × V). is_seen names y.0) xs) all in
      let here : names_of (series_of plus (before ++ x ∷ [])) ≡ names =
      ap names_of (series_of-more plus x.0 x.1 before) ∙ name_known x.0 x.1 (series_of plus before) parts.0 in
      ap (λ ys. names_of (series_of plus ys)) (sym (append_assoc before (x ∷ []) xs))
      ∙ names_stay (before ++ x ∷ []) xs (subst (λ ns. list_all (λ (y : List ℕ × V). is_seen ns y.0) xs ≡ true) (sym here) parts.1)
      ∙ here

  -- the name of a value that was added
  added_at : (before : List (List ℕ × V)) (x : List ℕ × V) (k : List ℕ) → bytes_eq k x.0 ≡ true → is_seen (names_of (series_of plus (before ++ x ∷ []))) k ≡ true
  added_at before x k e =
      let names = names_of (series_of plus (before ++ x ∷ [])) in
      list_any_congr nat_list_eq_equiv k x.0 names e
      ∙ ap (λ ys. is_seen (names_of ys) x.0) (series_of-more plus x.0 x.1 before)
      ∙ name_there x.0 x.1 (series_of plus before) (nat_list_eq_equiv.refl x.0)

  pub name_added : (before xs : List (List ℕ × V)) (k : List ℕ) → list_any (λ (x : List ℕ × V). bytes_eq k x.0) xs ≡ true
      → is_seen (names_of (series_of plus (before ++ xs))) k ≡ true
  name_added before [] k there = absurd (true≢false (sym there))
  name_added before (x ∷ xs) k there =
      ap (λ ys. is_seen (names_of (series_of plus ys)) k) (sym (append_assoc before (x ∷ []) xs)) ∙ by (bytes_eq k x.0) refl there (name_added (before ++ x ∷ []) xs k)
    where
      by : (b : Bool) → bytes_eq k x.0 ≡ b → (b || list_any (λ (y : List ℕ × V). bytes_eq k y.0) xs) ≡ true
          → (list_any (λ (y : List ℕ × V). bytes_eq k y.0) xs ≡ true → is_seen (names_of (series_of plus ((before ++ x ∷ []) ++ xs))) k ≡ true)
          → is_seen (names_of (series_of plus ((before ++ x ∷ []) ++ xs))) k ≡ true
      by true e h more = still_seen (names_of (series_of plus (before ++ x ∷ []))) (names_of (series_of plus ((before ++ x ∷ []) ++ xs))) k (names_front (before ++ x ∷ []) xs) (added_at before x k e)
      by false e h more = more h

  -- ---- the first of series

  names-take : (n : ℕ) (xs : List (List ℕ × V)) → names_of (take n xs) ≡ take n (names_of xs)
  names-take zero xs = refl
  names-take (suc n) [] = refl
  names-take (suc n) (x ∷ xs) = ap (λ ys. x.0 ∷ ys) (names-take n xs)

  begins_taken : (n : ℕ) (xs rest : List (List ℕ)) → Begins (take n xs) (take n (xs ++ rest))
  begins_taken zero xs rest = record { rest = []; whole = refl }
  begins_taken (suc n) [] rest = record { rest = take (suc n) rest; whole = refl }
  begins_taken (suc n) (x ∷ xs) rest =
      let more = begins_taken n xs rest in
      record { rest = more.rest; whole = ap (λ ys. x ∷ ys) more.whole }

  pub first_begin : (n : ℕ) (xs ys : List (List ℕ × V)) → Begins (names_of xs) (names_of ys) → Begins (names_of (take n xs)) (names_of (take n ys))
  first_begin n xs ys b =
      subst (λ ns. Begins ns (names_of (take n ys))) (sym (names-take n xs))
      (subst (Begins (take n (names_of xs))) (ap (take n) (sym b.whole) ∙ sym (names-take n ys)) (begins_taken n (names_of xs) b.rest))

  pub first_stay : (room : ℕ) (before xs : List (List ℕ × V)) → Begins (names_of (limited room plus before).first) (names_of (limited room plus (before ++ xs)).first)
  first_stay room before xs = first_begin room (series_of plus before) (series_of plus (before ++ xs)) (names_front before xs)

  -- ---- what stands by itself for good

  same_front : (l : List ℕ) (n : ℕ) (names rest : List (List ℕ)) → is_seen names l ≡ true → is_seen (take n (names ++ rest)) l ≡ is_seen (take n names) l
  same_front l zero [] rest seen = absurd (true≢false (sym seen))
  same_front l zero (x ∷ names) rest seen = refl
  same_front l (suc n) [] rest seen = absurd (true≢false (sym seen))
  same_front l (suc n) (x ∷ names) rest seen = by (bytes_eq l x) seen (same_front l n names rest)
    where
      by : (b : Bool) → (b || is_seen names l) ≡ true → (is_seen names l ≡ true → is_seen (take n (names ++ rest)) l ≡ is_seen (take n names) l)
          → (b || is_seen (take n (names ++ rest)) l) ≡ (b || is_seen (take n names) l)
      by true e more = refl
      by false e more = more e

  -- labels that were added stand by themselves or don't, whatever is added later
  pub still_stands : (room : ℕ) (l : List ℕ) (before xs : List (List ℕ × V)) → list_any (λ (x : List ℕ × V). bytes_eq l x.0) before ≡ true
      → is_seen (names_of (limited room plus (before ++ xs)).first) l ≡ is_seen (names_of (limited room plus before).first) l
  still_stands room l before xs there =
      let b = names_front before xs in
      let old = names_of (series_of plus before) in
      ap (λ ns. is_seen ns l) (names-take room (series_of plus (before ++ xs)) ∙ ap (take room) b.whole)
      ∙ same_front l room old b.rest (name_added [] before l there)
      ∙ ap (λ ns. is_seen ns l) (sym (names-take room (series_of plus before)))

  any-named : (l : List ℕ) (xs : List (List ℕ × V)) → is_seen (names_of xs) l ≡ list_any (λ (x : List ℕ × V). bytes_eq l x.0) xs
  any-named l [] = refl
  any-named l (x ∷ xs) = ap (λ b. bytes_eq l x.0 || b) (any-named l xs)

  pub named_stands : (room : ℕ) (l : List ℕ) (before xs : List (List ℕ × V)) → is_seen (names_of before) l ≡ true
      → is_seen (names_of (limited room plus (before ++ xs)).first) l ≡ is_seen (names_of (limited room plus before).first) l
  named_stands room l before xs there = still_stands room l before xs (sym (any-named l before) ∙ there)
