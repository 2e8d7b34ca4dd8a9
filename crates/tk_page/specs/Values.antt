-- An attribute's value, and its unit.
use Rattle.std.specs.Prelude.{ℕ, suc, ℤ, pos, negsuc, true, false, Option, Some, None, List, [], ◌∷◌, codes}
use Rattle.tk_ids.specs.declared.attr.AttrValue.{AttrValue}
use Rattle.tk_ids.specs.declared.attr.AttrValue.TheVariants.{U64, Bool as Flag, I64}
use Rattle.tk_paper.specs.Parts.{Bit, text, count}

-- a number's sign
abbrev pub sign_of : ℤ → List ℕ
sign_of (pos n) = []
sign_of (negsuc n) = codes "-"

-- a number without its sign
abbrev pub size_of : ℤ → ℕ
size_of (pos n) = n
size_of (negsuc n) = suc n

-- an attribute's value
abbrev pub value_of : AttrValue → List Bit
value_of (U64 n) = count n ∷ []
value_of (Flag true) = text (codes "true") ∷ []
value_of (Flag false) = text (codes "false") ∷ []
value_of (I64 n) = text (sign_of n) ∷ count (size_of n) ∷ []

-- its unit, where it has one
abbrev pub unit : Option (List ℕ) → List Bit
unit None = []
unit (Some name) = text (codes " ") ∷ text name ∷ []
