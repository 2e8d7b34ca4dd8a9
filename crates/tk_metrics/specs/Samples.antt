-- Families of samples, as they are written.
use Rattle.std.specs.Prelude.{ℕ, ◌+◌, ◌/◌, ◌%◌, ◌==◌, List, [], ◌∷◌, ◌++◌, codes, decimal, flat_map, if◌then◌else◌}
use Rattle.tk_metrics.specs.declared.family.Family.{Family}
use Rattle.tk_metrics.specs.declared.family.FamilyKind.{FamilyKind}
use Rattle.tk_metrics.specs.declared.family.FamilyKind.TheVariants.{Counter, Gauge, Histogram}
use Rattle.tk_metrics.specs.Families.{base_of, help_of, is_in_seconds, kind_of}

-- ---- labels

-- a byte of a label's value: a backslash and a quote stand after a backslash, and a line end as `\n`
abbrev pub escaped_byte : ℕ → List ℕ
escaped_byte b =
    if b == 92 then 92 ∷ 92 ∷ [] else
    (if b == 34 then 92 ∷ 34 ∷ [] else
    (if b == 10 then 92 ∷ 110 ∷ [] else b ∷ []))

-- the value of a label
abbrev pub escaped : List ℕ → List ℕ
escaped = flat_map escaped_byte

-- a label: its key, and its value between quotes
abbrev pub label : List ℕ → List ℕ → List ℕ
label key value = key ++ (61 ∷ 34 ∷ (escaped value ++ 34 ∷ []))

-- labels and one more, after a comma
abbrev pub with_label : List ℕ → List ℕ → List ℕ → List ℕ
with_label labels key value = labels ++ 44 ∷ label key value

-- labels between braces; none have none
abbrev pub braced : List ℕ → List ℕ
braced [] = []
braced (b ∷ labels) = 123 ∷ ((b ∷ labels) ++ 125 ∷ [])

-- ---- values

-- the digit of a number that counts such units
abbrev pub digit : ℕ → ℕ → ℕ
digit n unit = 48 + n / unit % 10

-- nanoseconds as seconds, with nine digits after the point
abbrev pub seconds : ℕ → List ℕ
seconds n = decimal (n / 1000000000) ++ 46
    ∷ digit n 100000000 ∷ digit n 10000000 ∷ digit n 1000000 ∷ digit n 100000 ∷ digit n 10000 ∷ digit n 1000 ∷ digit n 100 ∷ digit n 10 ∷ digit n 1 ∷ []

-- ---- families

-- the word for a kind of family
abbrev pub kind_word : FamilyKind → List ℕ
kind_word Counter = codes "counter"
kind_word Gauge = codes "gauge"
kind_word Histogram = codes "histogram"

-- counters end so
abbrev pub suffix : FamilyKind → List ℕ
suffix Counter = codes "_total"
suffix Gauge = []
suffix Histogram = []

-- the name of a family's samples
abbrev pub name_of : Family → List ℕ
name_of f = base_of f ++ suffix (kind_of f)

-- its unit, where it has one
abbrev pub unit_line : Family → List ℕ
unit_line f = if is_in_seconds f then codes "# UNIT " ++ base_of f ++ codes " seconds\n" else []

-- its type
abbrev pub type_line : Family → List ℕ
type_line f = codes "# TYPE " ++ name_of f ++ codes " " ++ kind_word (kind_of f) ++ codes "\n"

-- what it counts
abbrev pub help_line : Family → List ℕ
help_line f = codes "# HELP " ++ name_of f ++ codes " " ++ help_of f ++ codes "\n"

-- what is said of a family before its samples
abbrev pub head_of : Family → List ℕ
head_of f = type_line f ++ (unit_line f ++ help_line f)

-- a value of a family, which is of nanoseconds where it is in seconds
abbrev pub value_of : Family → ℕ → List ℕ
value_of f n = if is_in_seconds f then seconds n else decimal n

-- a sample: its family's name, its labels and its value
abbrev pub sample : Family → List ℕ × ℕ → List ℕ
sample f s = name_of f ++ braced s.0 ++ codes " " ++ value_of f s.1 ++ codes "\n"

-- a family, where the samples of each of these things are so written
abbrev pub family : {A : Type 0} → Family → (A → List ℕ) → List A → List ℕ
family f samples_of xs = head_of f ++ flat_map samples_of xs
