-- How a text of a stranger stands in a page, and what a page's text is woven of.
use Rattle.std.specs.Prelude.{◌≡◌, ℕ, ◌==◌, List, [], ◌∷◌, ◌++◌, codes, flat_map, if◌then◌else◌, Bool, ◌&&◌, not, Option, Some, None}
use Rattle.tk_paper.specs.declared.marks.Mark.{Mark}
use Rattle.tk_paper.specs.declared.marks.Place.{Place}
use Rattle.tk_paper.specs.declared.marks.Place.TheVariants as places
use Rattle.tk_paper.specs.Marks.{place_after, mark_text}

-- a byte as it stands in a page: `<`, `>`, `&`, `"` and `'` by their names, each other byte as it is
abbrev pub escaped_byte : ℕ → List ℕ
escaped_byte b =
    if b == 60 then codes "&lt;" else
    (if b == 62 then codes "&gt;" else
    (if b == 38 then codes "&amp;" else
    (if b == 34 then codes "&quot;" else
    (if b == 39 then codes "&#39;" else b ∷ []))))

-- a text as it stands in a page
abbrev pub escaped : List ℕ → List ℕ
escaped = flat_map escaped_byte

-- a piece of a page: the page's own markup, or a byte of any text
pub data Piece : Type 0 where
  own : Mark → Piece
  byte : ℕ → Piece

-- a piece as it stands in the page
abbrev pub spelled : Piece → List ℕ
spelled (own mark) = mark_text mark
spelled (byte b) = escaped_byte b

-- a text's byte stands between tags, or in an attribute's value, and changes nothing of that
abbrev pub after_byte : Place → Option Place
after_byte places.Text = Some places.Text
after_byte places.Value = Some places.Value
after_byte places.Tag = None

-- where the text goes on after a piece, where that may stand there
abbrev pub after_piece : Place → Piece → Option Place
after_piece place (own mark) = place_after place mark
after_piece place (byte b) = after_byte place

-- a text that is woven of pieces, each where it may stand, from between tags up to this place
pub data Woven : List ℕ → Place → Type 0 where
  empty : Woven [] places.Text
  more : (text : List ℕ) (place next : Place) (piece : Piece) → Woven text place → after_piece place piece ≡ Some next → Woven (text ++ spelled piece) next

-- a byte that neither begins nor ends a tag or a value
abbrev pub is_plain : ℕ → Bool
is_plain b = not (b == 60) && (not (b == 62) && (not (b == 34) && not (b == 39)))

-- a page's text so far, and where it goes on: nowhere from a piece on that had no place
pub record PaperView : Type 0 where
  pub text : List ℕ
  pub place : Option Place

-- no text
abbrev pub no_paper : PaperView
no_paper = record { text = []; place = Some places.Text }
