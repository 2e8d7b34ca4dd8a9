-- Where a page's text goes on after parts.
use Rattle.std.proofs.Common.{◌≡◌, ℕ, List, [], ◌∷◌, ◌++◌, take, drop, take-append-drop, Option, refl, ap, sym, ◌∙◌}
use Rattle.std.specs.Prelude.{flat_map}
use Rattle.tk_paper.specs.Parts.{Bit, after_all}
use Rattle.tk_paper.specs.declared.marks.Place.{Place}
use Rattle.tk_paper.proofs.PutLemmas.{after-append}

-- after these parts the text goes on there
pub record Leads (from : Option Place) (bits : List Bit) (to : Option Place) : Type 0 where
  pub is : after_all bits from ≡ to

-- parts that are written out
pub bits_to : {p q : Option Place} (bits : List Bit) → after_all bits p ≡ q → Leads p bits q
bits_to bits e = record { is = e }

-- some parts, and others after them
pub then_to : {p q r : Option Place} {a b : List Bit} → Leads p a q → Leads q b r → Leads p (a ++ b) r
then_to {p} {q} {r} {a} {b} h k = record { is = after-append a b p ∙ ap (after_all b) h.is ∙ k.is }

-- so many parts that are written out, and others after them
pub cut_to : {p q r : Option Place} {bits : List Bit} (n : ℕ) → after_all (take n bits) p ≡ q → Leads q (drop n bits) r → Leads p bits r
cut_to {p} {q} {r} {bits} n e h = record {
  is = ap (λ ys. after_all ys p) (sym (take-append-drop n bits)) ∙ after-append (take n bits) (drop n bits) p ∙ ap (after_all (drop n bits)) e ∙ h.is;
}

-- nothing
pub none_to : (p : Option Place) → Leads p [] p
unfolding after_all
none_to p = record { is = refl }

-- the parts of each item
pub each_to : {A : Type 0} {p : Option Place} (f : A → List Bit) → ((x : A) → Leads p (f x) p) → (xs : List A) → Leads p (flat_map f xs) p
each_to {A} {p} f h [] = none_to p
each_to {A} {p} f h (x ∷ xs) = then_to (h x) (each_to f h xs)
