-- The lines of a span, one line more.
use Rattle.std.proofs.Common.{◌≡◌, ℕ, List, [], ◌∷◌, ◌++◌, Bool, true, false, not, ◌&&◌, ◌||◌, cond, Option, Some, None, refl, ap, ap₂, sym, subst, ◌∙◌}
use Rattle.std.specs.List.{list_all, list_any}
use Rattle.std.proofs.lemmas.List.Folds.{list_any-append}
use Rattle.tk_client.specs.Changes.{ChangeView, Leads}
use Rattle.tk_odd.specs.Span.{BeginsBy, EndsWith, is_by, is_early, lines_since, rest_is_later, span_of}
use Rattle.tk_reading.specs.Shown.{last_shown}
use Rattle.tk_stream.specs.Tables.{TablesView, empty_tables}

or-last : (a b : Bool) → b ≡ true → (a || (b || false)) ≡ true
or-last true b e = refl
or-last false true e = refl
or-last false false e = e

or-none : (a b : Bool) → b ≡ false → (a || (b || false)) ≡ a
or-none true b e = refl
or-none false true e = e
or-none false false e = refl

-- a line at or before the moment begins the span anew
by-last : (since : ℕ) (shown : List TablesView) (t : TablesView) → is_by since t ≡ true → lines_since since (shown ++ t ∷ []) ≡ t ∷ []
by-last since [] t e = refl
by-last since (x ∷ xs) t e =
    let some : list_any (is_by since) (xs ++ t ∷ []) ≡ true = list_any-append (is_by since) xs (t ∷ []) ∙ or-last (list_any (is_by since) xs) (is_by since t) e in
    ap (λ b. cond b (lines_since since (xs ++ t ∷ [])) (x ∷ (xs ++ t ∷ []))) some ∙ by-last since xs t e

-- a later one goes on with it
later-last : (since : ℕ) (shown : List TablesView) (t : TablesView) → is_by since t ≡ false → lines_since since (shown ++ t ∷ []) ≡ lines_since since shown ++ t ∷ []
later-last since [] t e = refl
later-last since (x ∷ xs) t e =
    let same : list_any (is_by since) (xs ++ t ∷ []) ≡ list_any (is_by since) xs =
    list_any-append (is_by since) xs (t ∷ []) ∙ or-none (list_any (is_by since) xs) (is_by since t) e in
    ap (λ b. cond b (lines_since since (xs ++ t ∷ [])) (x ∷ (xs ++ t ∷ []))) same ∙ by (list_any (is_by since) xs) (later-last since xs t e)
  where
    by : (b : Bool) → lines_since since (xs ++ t ∷ []) ≡ lines_since since xs ++ t ∷ []
        → cond b (lines_since since (xs ++ t ∷ [])) (x ∷ (xs ++ t ∷ [])) ≡ cond b (lines_since since xs) (x ∷ xs) ++ t ∷ []
    by true rest = rest
    by false rest = refl

pub begins_span : (since : Option ℕ) (shown : List TablesView) (t : TablesView) → is_early since t ≡ true → t ∷ [] ≡ span_of since (shown ++ t ∷ [])
begins_span None shown t e = absurd (cc)
begins_span (Some since) shown t e = sym (by-last since shown t e)

pub goes_on_span : (since : Option ℕ) (shown : List TablesView) (t : TablesView) → is_early since t ≡ false → span_of since shown ++ t ∷ [] ≡ span_of since (shown ++ t ∷ [])
goes_on_span None shown t e = refl
goes_on_span (Some since) shown t e = sym (later-last since shown t e)

-- a span ends as all lines do
last-since : (since : ℕ) (old : TablesView) (shown : List TablesView) → last_shown old (lines_since since shown) ≡ last_shown old shown
last-since since old [] = refl
last-since since old (x ∷ []) = refl
last-since since old (x ∷ y ∷ ys) = by (list_any (is_by since) (y ∷ ys)) (last-since since old (y ∷ ys))
  where
    by : (b : Bool) → last_shown old (lines_since since (y ∷ ys)) ≡ last_shown y ys
        → last_shown old (cond b (lines_since since (y ∷ ys)) (x ∷ y ∷ ys)) ≡ last_shown y ys
    by true rest = rest
    by false rest = refl

pub last_of_span : (since : Option ℕ) (old : TablesView) (shown : List TablesView) → last_shown old (span_of since shown) ≡ last_shown old shown
last_of_span None old shown = refl
last_of_span (Some since) old shown = last-since since old shown

-- so what leads on from all lines leads on from the span
pub leads_on : (since : Option ℕ) (shown : List TablesView) (t : TablesView) (change : ChangeView) → Leads (last_shown empty_tables shown) t change
    → Leads (last_shown empty_tables (span_of since shown)) t change
leads_on since shown t change l = subst (λ (x : TablesView). Leads x t change) (sym (last_of_span since empty_tables shown)) l

-- ---- laws

none-by : (since : ℕ) (xs : List TablesView) → list_any (is_by since) xs ≡ false → list_all (λ t. not (is_by since t)) xs ≡ true
none-by since [] e = refl
none-by since (x ∷ xs) e = by (is_by since x) e (none-by since xs)
  where
    by : (b : Bool) → (b || list_any (is_by since) xs) ≡ false → (list_any (is_by since) xs ≡ false → list_all (λ t. not (is_by since t)) xs ≡ true)
        → (not b && list_all (λ t. not (is_by since t)) xs) ≡ true
    by true n rest = absurd (cc)
    by false n rest = rest n

-- where a line is at or before the moment, a span begins with such a one
some-by : (since : ℕ) (out xs : List TablesView) → list_any (is_by since) xs ≡ true → BeginsBy since out (lines_since since xs)
some-by since [] xs e = tt
some-by since (o ∷ out) [] e = absurd (cc)
some-by since (o ∷ out) (x ∷ xs) e = by (list_any (is_by since) xs) (some-by since (o ∷ out) xs) e
  where
    by : (b : Bool) → (b ≡ true → BeginsBy since (o ∷ out) (lines_since since xs)) → (is_by since x || b) ≡ true → BeginsBy since (o ∷ out) (cond b (lines_since since xs) (x ∷ xs))
    by true more some = more refl
    by false more some = only (is_by since x) some
      where
        only : (a : Bool) → (a || false) ≡ true → a ≡ true
        only true e = refl
        only false e = e

pub ends_with : (since : ℕ) (shown : List TablesView) → EndsWith since shown (lines_since since shown)
ends_with since [] = record { left_out = []; all = refl; begins = tt; later = refl }
ends_with since (x ∷ xs) = by (list_any (is_by since) xs) refl (ends_with since xs)
  where
    by : (b : Bool) → list_any (is_by since) xs ≡ b → EndsWith since xs (lines_since since xs) → EndsWith since (x ∷ xs) (cond b (lines_since since xs) (x ∷ xs))
    by true some rest = record {
      left_out = x ∷ rest.left_out;
      all = ap (λ ys. x ∷ ys) rest.all;
      begins = some-by since (x ∷ rest.left_out) xs some;
      later = rest.later;
    }
    by false none rest = record { left_out = []; all = refl; begins = tt; later = none-by since xs none }

or-rest : (a b : Bool) → (a || b) ≡ false → b ≡ false
or-rest true b e = absurd (cc)
or-rest false b e = e

pub all_since : (since : ℕ) (shown : List TablesView) → list_any (is_by since) shown ≡ false → lines_since since shown ≡ shown
all_since since [] e = refl
all_since since (x ∷ xs) e = ap (λ b. cond b (lines_since since xs) (x ∷ xs)) (or-rest (is_by since x) (list_any (is_by since) xs) e)

-- of no lines
pub none_of_span : (since : Option ℕ) → [] ≡ span_of since []
none_of_span None = refl
none_of_span (Some since) = refl
