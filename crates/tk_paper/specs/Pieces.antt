-- What is put after a page's text.
use Rattle.std.specs.Prelude.{◌≡◌, ℕ, List, ◌++◌, Option}
use Rattle.tk_paper.specs.declared.marks.Place.{Place}
use Rattle.tk_paper.specs.Escaping.{PaperView}
use Rattle.tk_paper.specs.Parts.{Bit, after_all, text_of}

-- the piece was put after the text, which goes on where this leads to
pub record Puts (old new : PaperView) (piece : List ℕ) (leads : Option Place → Option Place) : Type 0 where
  pub is : new.text ≡ old.text ++ piece
  pub place : new.place ≡ leads old.place

-- these parts were put after the text
pub record Writes (old new : PaperView) (parts : List Bit) : Type 0 where
  pub is : new.text ≡ old.text ++ text_of parts
  pub place : new.place ≡ after_all parts old.place
