-- What was put, one piece after the other.
use Rattle.std.proofs.Common.{◌≡◌, ℕ, List, [], ◌∷◌, ◌++◌, Bool, true, false, cond, refl, ap, sym, ◌∙◌, append_assoc, append-nil}
use Rattle.std.specs.Prelude.{map}
use Rattle.std.specs.List.{list_all}
use Rattle.tk_screen.specs.Texts.{Puts}
use Rattle.tk_screen.specs.Screens.{drawn, is_printable}

-- two pieces were put
pub both : {X : Type 0} {a b c p q : List X} → Puts a b p → Puts b c q → Puts a c (p ++ q)
both {X} {a} {b} {c} {p} {q} g h = record { is = h.is ∙ ap (λ xs. xs ++ q) g.is ∙ append_assoc a p q }

-- nothing was put
pub nothing : {X : Type 0} (a : List X) → Puts a a []
nothing a = record { is = sym (append-nil a) }

-- a byte is drawn as printable ASCII
drawn_is_printable : (b : ℕ) → is_printable (drawn b) ≡ true
drawn_is_printable b = by (is_printable b) refl
  where
    by : (c : Bool) → is_printable b ≡ c → is_printable (cond c b 63) ≡ true
    by true e = e
    by false e = refl

pub drawn_are_printable : (text : List ℕ) → list_all is_printable (map drawn text) ≡ true
drawn_are_printable [] = refl
drawn_are_printable (b ∷ bs) = rw (drawn_is_printable b) (drawn_are_printable bs)
