-- Parts that several sections have.
use Rattle.std.specs.Str.{is_utf8}
use Rattle.std.specs.Prelude.{ℕ, ◌-◌, nat_le, if◌then◌else◌, List, [], ◌∷◌, codes}
use Rattle.tk_ids.specs.Ids.{recorder_of, number_of}
use Rattle.tk_ids.specs.declared.location.Location.{Location}
use Rattle.tk_paper.specs.Parts.{Bit, text, number, count, close, class}
use Rattle.tk_paper.specs.declared.marks.Tag.TheVariants as tags

-- an id: its recorder and its number
abbrev pub id : ℕ → List Bit
id n = number (recorder_of n) ∷ text (codes ".") ∷ number (number_of n) ∷ []

-- where an item was made
abbrev pub location : Location → List Bit
location place = text place.file ∷ text (codes ":") ∷ number place.line ∷ text (codes ":") ∷ number place.column ∷ []

-- how many items more there are than are shown
abbrev pub more : ℕ → ℕ → List ℕ → List Bit
more all shown words =
    if nat_le all shown then [] else class tags.P (codes "more") ∷ text (codes "and ") ∷ count (all - shown) ∷ text words ∷ close tags.P ∷ []

-- a place, as it is written. What is no text is left out; a name of ASCII, as streams have them, is one
abbrev pub site_text : List ℕ → List Bit
site_text site = if is_utf8 site then text site ∷ [] else []
