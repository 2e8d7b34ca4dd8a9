-- What was put, one piece after the other.
use Rattle.std.proofs.Common.{◌≡◌, ℕ, zero, suc, ◌+◌, ◌<◌, ◌≤◌, List, [], ◌∷◌, ◌++◌, length, take, get_or, slice_get, Option, Some, None, refl, ap, sym, ◌∙◌, append_assoc, append-nil, add-one, arith, subst}
use Rattle.std.specs.Prelude.{flat_map, map}
use Rattle.std.specs.Option.{option_map_or}
use Rattle.std.proofs.lemmas.Grind.{flat_map-append}
use Rattle.std.proofs.lemmas.List.{map-append, take_all}
use Rattle.tk_paper.specs.Pieces.{Puts, Writes}
use Rattle.tk_paper.specs.Escaping.{PaperView}
use Rattle.tk_paper.specs.Parts.{Bit, after_all, after_bit, after_text, bit_of, bit_text, text_of}
use Rattle.tk_paper.specs.declared.marks.Place.{Place}
use Rattle.tk_paper.specs.declared.marks.Place.TheVariants as places
use Rattle.tk_paper.specs.declared.paper.Part.{Part}

-- two pieces were put
pub both : {a b c : PaperView} {p q : List ℕ} {f g : Option Place → Option Place} → Puts a b p f → Puts b c q g → Puts a c (p ++ q) (λ place. g (f place))
both {a} {b} {c} {p} {q} {f} {g} h k = record { is = k.is ∙ ap (λ xs. xs ++ q) h.is ∙ append_assoc a.text p q; place = k.place ∙ ap g h.place }

-- a text goes on after a text as after one
pub same_text : (place : Option Place) → after_text (after_text place) ≡ after_text place
same_text None = refl
same_text (Some places.Text) = refl
same_text (Some places.Tag) = refl
same_text (Some places.Value) = refl

-- two texts were put
pub both_texts : {a b c : PaperView} {p q : List ℕ} → Puts a b p after_text → Puts b c q after_text → Puts a c (p ++ q) after_text
both_texts {a} {b} {c} {p} {q} h k = record { is = k.is ∙ ap (λ xs. xs ++ q) h.is ∙ append_assoc a.text p q; place = k.place ∙ ap after_text h.place ∙ same_text a.place }

-- ---- parts

-- nothing was put
pub nothing : (a : PaperView) → Writes a a []
unfolding text_of after_all
nothing a = record { is = sym (append-nil a.text); place = refl }

-- after parts, and others after them
pub after-append : (ps qs : List Bit) (place : Option Place) → after_all (ps ++ qs) place ≡ after_all qs (after_all ps place)
unfolding after_all
after-append [] qs place = refl
after-append (p ∷ ps) qs place = after-append ps qs (after_bit p place)

-- parts were put, and others after them
pub then : {a b c : PaperView} {p q : List Bit} → Writes a b p → Writes b c q → Writes a c (p ++ q)
unfolding text_of
then {a} {b} {c} {p} {q} g h = record {
  is = h.is ∙ ap (λ xs. xs ++ text_of q) g.is ∙ append_assoc a.text (text_of p) (text_of q) ∙ ap (λ xs. a.text ++ xs) (sym (flat_map-append bit_text p q));
  place = h.place ∙ ap (after_all q) g.place ∙ sym (after-append p q a.place);
}

-- a part was put
pub one : {a b : PaperView} (bit : Bit) → Puts a b (bit_text bit) (after_bit bit) → Writes a b (bit ∷ [])
unfolding text_of after_all
one {a} {b} bit h = record { is = h.is ∙ ap (λ xs. a.text ++ xs) (sym (append-nil (bit_text bit))); place = h.place }

take_more : {A : Type 0} (xs : List A) (i : ℕ) (d : A) → i < length xs → take (suc i) xs ≡ take i xs ++ get_or xs i d ∷ []
take_more [] i d h = absurd (omega (arith, h))
take_more (x ∷ xs) zero d h = refl
take_more (x ∷ xs) (suc i) d h = ap (λ ys. x ∷ ys) (take_more xs i d (omega (arith, h)))

-- the parts up to a place, and the one that stands there
pub one_part : {a b c : PaperView} (ps : List Part) (i : ℕ) (d : Part) → i < length ps → Writes a b (map bit_of (take i ps))
    → Puts b c (bit_text (bit_of (get_or ps i d))) (after_bit (bit_of (get_or ps i d))) → Writes a c (map bit_of (take (i + 1) ps))
one_part {a} {b} {c} ps i d h g k =
    let is : map bit_of (take (i + 1) ps) ≡ map bit_of (take i ps) ++ bit_of (get_or ps i d) ∷ [] =
    rw add-one (ap (map bit_of) (take_more ps i d h) ∙ map-append bit_of (take i ps) (get_or ps i d ∷ [])) in
    subst (Writes a c) (sym is) (then g (one (bit_of (get_or ps i d)) k))

-- past the last place all are put
pub all_parts : {a b : PaperView} (ps : List Part) (i : ℕ) → length ps ≤ i → Writes a b (map bit_of (take i ps)) → Writes a b (map bit_of ps)
all_parts {a} {b} ps i past h = subst (λ ys. Writes a b (map bit_of ys)) (take_all i ps past) h

module _ {A : Type 0} (f : A → List Bit) where
  -- the parts of items up to a place, and of the one that stands there, if one does
  next : (xs : List A) (i : ℕ) → flat_map f (take (suc i) xs) ≡ flat_map f (take i xs) ++ option_map_or f (slice_get xs i) []
  next [] zero = refl
  next [] (suc i) = refl
  next (y ∷ xs) zero = append-nil (f y)
  next (y ∷ xs) (suc i) = ap (λ ys. f y ++ ys) (next xs i) ∙ sym (append_assoc (f y) (flat_map f (take i xs)) (option_map_or f (slice_get xs i) []))

  pub next_put : {a b c : PaperView} (xs : List A) (i : ℕ) → Writes a b (flat_map f (take i xs)) → Writes b c (option_map_or f (slice_get xs i) [])
      → Writes a c (flat_map f (take (i + 1) xs))
  next_put {a} {b} {c} xs i g h = subst (Writes a c) (sym (rw add-one (next xs i))) (then g h)

  -- past the last place
  pub all_put : {a b : PaperView} (xs : List A) (i n : ℕ) → n ≡ length xs → n ≤ i → Writes a b (flat_map f (take i xs)) → Writes a b (flat_map f xs)
  all_put {a} {b} xs i n is past g = subst (λ ys. Writes a b (flat_map f ys)) (take_all i xs (subst (λ m. m ≤ i) is past)) g
