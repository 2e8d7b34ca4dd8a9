-- The texts on a screen: numbers in units that people read, and texts in columns.
use Rattle.std.specs.Prelude.{◌≡◌, ◌==◌, ◌*◌, ◌/◌, ◌%◌, ◌-◌, ℕ, List, ◌∷◌, ◌++◌, length, nat_lt, codes, decimal, replicate, if◌then◌else◌}

-- a piece was put after what was there
pub record Puts {X : Type 0} (old new piece : List X) : Type 0 where
  pub is : new ≡ old ++ piece

-- so many tenths of a unit
abbrev pub tenths_text : ℕ → List ℕ → List ℕ
tenths_text tenths unit = decimal (tenths / 10) ++ (46 ∷ decimal (tenths % 10)) ++ unit

-- a time of so many nanoseconds, in the greatest unit of which it has one or more; the decimal is rounded down
abbrev pub duration_text : ℕ → List ℕ
duration_text n =
    if nat_lt n 1000 then decimal n ++ codes " ns" else
    (if nat_lt n 1000000 then tenths_text (n / 100) (codes " us") else
    (if nat_lt n 1000000000 then tenths_text (n / 100000) (codes " ms") else tenths_text (n / 100000000) (codes " s")))

-- a part of a whole in percent, rounded down; a hyphen where there is no whole
abbrev pub share_text : ℕ → ℕ → List ℕ
share_text part whole = if whole == 0 then codes "-" else decimal (100 * part / whole) ++ codes "%"

abbrev pub spaces : ℕ → List ℕ
spaces n = replicate n 32

-- a text at the right of a column of a width, after spaces. A longer text stays whole
abbrev pub right : ℕ → List ℕ → List ℕ
right width text = spaces (width - length text) ++ text

-- a text at the left of a column of a width, before spaces. A longer text stays whole
abbrev pub left : ℕ → List ℕ → List ℕ
left width text = text ++ spaces (width - length text)
