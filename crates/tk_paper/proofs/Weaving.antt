-- Texts that are woven, piece by piece.
use Rattle.std.proofs.Common.{◌≡◌, ℕ, List, [], ◌++◌, Option, Some, None, refl, sym, subst}
use Rattle.std.specs.Prelude.{IfSome}
use Rattle.std.proofs.Math.Logic.{∥∥₁_map}
use Rattle.tk_paper.specs.declared.marks.Mark.{Mark}
use Rattle.tk_paper.specs.declared.marks.Place.{Place}
use Rattle.tk_paper.specs.declared.marks.Place.TheVariants as places
use Rattle.tk_paper.specs.Escaping.{Piece, Woven, empty, more, spelled, after_byte, after_piece, own, byte}
use Rattle.tk_paper.specs.Marks.{place_after}
use Rattle.tk_paper.specs.Parts.{after_mark, after_text}

-- a text that is woven up to where it goes on
abbrev pub IsWoven : List ℕ → Option Place → Type 0
IsWoven text place = IfSome place (λ p. ∥ Woven text p ∥₁)

-- no text
pub no_text : (text : List ℕ) → text ≡ [] → ∥ Woven text places.Text ∥₁
no_text text is = ∣ subst (λ xs. Woven xs places.Text) (sym is) empty ∣₁

-- a piece more
one_more : (old new : List ℕ) (place next : Place) (piece : Piece) → new ≡ old ++ spelled piece → after_piece place piece ≡ Some next
    → ∥ Woven old place ∥₁ → ∥ Woven new next ∥₁
one_more old new place next piece is may w =
    ∥∥₁_map w (λ v. subst (λ xs. Woven xs next) (sym is) (more old place next piece v may))

by_piece : (old new : List ℕ) (place : Place) (piece : Piece) (next : Option Place) → new ≡ old ++ spelled piece → after_piece place piece ≡ next
    → ∥ Woven old place ∥₁ → IsWoven new next
by_piece old new place piece None is may w = tt
by_piece old new place piece (Some next) is may w = one_more old new place next piece is may w

-- a piece of markup more
pub mark_more : (old new : List ℕ) (place : Option Place) (mark : Mark) → new ≡ old ++ spelled (own mark) → IsWoven old place → IsWoven new (after_mark mark place)
mark_more old new None mark is w = tt
mark_more old new (Some place) mark is w = by_piece old new place (own mark) (place_after place mark) is refl w

-- a byte of a text more
pub byte_more : (old new : List ℕ) (place : Option Place) (b : ℕ) → new ≡ old ++ spelled (byte b) → IsWoven old place → IsWoven new (after_text place)
byte_more old new None b is w = tt
byte_more old new (Some place) b is w = by_piece old new place (byte b) (after_byte place) is refl w

-- a text begins
pub text_begins : (text : List ℕ) (place : Option Place) → IsWoven text place → IsWoven text (after_text place)
text_begins text None w = tt
text_begins text (Some places.Text) w = w
text_begins text (Some places.Tag) w = tt
text_begins text (Some places.Value) w = w
