-- The lines of a text, one after the other, and what is told of one.
use Rattle.std.proofs.Common.{◌≡◌, ℕ, suc, zero, ◌+◌, ◌-◌, ◌≤◌, List, [], ◌∷◌, drop, Option, Some, None, refl, ap, ap₂, sym, subst, ◌∙◌, arith}
use Rattle.std.specs.Borrow.{Bor}
use Rattle.std.specs.Option.{option_map}
use Rattle.std.specs.Prelude.{MatchOption, slice_get}
use Rattle.std.specs.Io.KnownBytes.{Appends}
use Rattle.std.proofs.KnownBytes.{Appends-trans}
use Rattle.tk_explain.specs.Telling.{TellsLine, line_after, line_text}

-- what stands after one more
tail_of : {X : Type 0} (xs : List X) (n : ℕ) (x : X) (next : List X) → drop n xs ≡ x ∷ next → (next ≡ drop (suc n) xs) × (slice_get xs n ≡ Some x)
tail_of [] zero x next is = absurd (cc)
tail_of [] (suc n) x next is = absurd (cc)
tail_of (y ∷ ys) zero x next is = (cc, cc)
tail_of (y ∷ ys) (suc n) x next is = tail_of ys n x next is

pub passes : (xs : List (List ℕ)) (n : ℕ) (here next : List (List ℕ)) (x : List ℕ) → here ≡ drop n xs → here ≡ x ∷ next → next ≡ drop (n + 1) xs
passes xs n here next x left is =
    let one : suc n ≡ n + 1 = omega arith in
    (tail_of xs n x next (sym left ∙ is)).0 ∙ ap (λ k. drop k xs) one

-- none is left, and none stands further on
none_at : {X : Type 0} (xs : List X) (n m : ℕ) → drop n xs ≡ [] → n ≤ m → slice_get xs m ≡ None
none_at [] n m is low = refl
none_at (y ∷ ys) zero m is low = absurd (cc)
none_at (y ∷ ys) (suc n) zero is low = absurd (omega (arith, low))
none_at (y ∷ ys) (suc n) (suc m) is low = none_at ys n m is (omega (arith, low))

pub none_left : (xs : List (List ℕ)) (n m : ℕ) (here : List (List ℕ)) → here ≡ drop n xs → here ≡ [] → n ≤ m → slice_get xs m ≡ None
none_left xs n m here left is low = none_at xs n m (sym left ∙ is) low

-- the first that is left, if one is
pub first_left : (xs : List (List ℕ)) (n : ℕ) (here next : List (List ℕ)) (r : Option (Bor (List ℕ))) → here ≡ drop n xs
    → MatchOption r ((here ≡ []) × (next ≡ [])) (λ x. here ≡ x.now ∷ next) → option_map (λ (l : Bor (List ℕ)). l.now) r ≡ slice_get xs n
first_left xs n here next None left is = sym (none_left xs n n here left is.0 (omega arith))
first_left xs n here next (Some x) left is = sym (tail_of xs n x.now next (sym left ∙ is)).1

-- the line that stands there was told by its number, and then a rule
pub tells : (number : ℕ) (at : Option (List ℕ)) (line rule : List ℕ) (old mid new : Option (List ℕ)) → at ≡ Some line → Appends old mid (line_text number line) → Appends mid new rule
    → TellsLine number at old new
tells number at line rule old mid new is told ruled =
    subst (λ a. TellsLine number a old new) (sym is) (rule, Appends-trans old mid new (line_text number line) rule told ruled)

-- what was found by its place is the line after so many others
pub found : (text kept : List ℕ) (lines before n place : ℕ) (r : Option (Bor (List ℕ))) (line : Bor (List ℕ)) → text ≡ kept → n ≡ before → place ≡ lines - n
    → option_map (λ (l : Bor (List ℕ)). l.now) r ≡ line_after text place → r ≡ Some line → line_after kept (lines - before) ≡ Some line.now
found text kept lines before n place r line same counted is there some =
    ap₂ line_after (sym same) (sym (is ∙ ap (λ b. lines - b) counted)) ∙ sym there ∙ ap (option_map (λ (l : Bor (List ℕ)). l.now)) some
