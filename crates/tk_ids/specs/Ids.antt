-- Which numbers are ids, and how an id is printed.
use Rattle.std.specs.Prelude.{ℕ, ◌+◌, ◌*◌, ◌/◌, ◌%◌, ◌^◌, Bool, ◌&&◌, nat_le, List, ◌++◌, codes, decimal}

-- the id of the n-th item of its kind that a recorder makes
abbrev pub id_of : ℕ → ℕ → ℕ
id_of recorder n = recorder * 2 ^ 40 + n

-- the recorder of an id
abbrev pub recorder_of : ℕ → ℕ
recorder_of id = id / 2 ^ 40

-- the number of an id among those of its kind that its recorder makes
abbrev pub number_of : ℕ → ℕ
number_of id = id % 2 ^ 40

-- recorders are 1 to 64, and items are numbered from 1; so a number is an id exactly where it is the `id_of` of such a pair
abbrev pub is_id : ℕ → Bool
is_id v = nat_le 1 (recorder_of v) && nat_le (recorder_of v) 64 && nat_le 1 (number_of v)

-- an id is printed as its recorder, a full stop and its number
abbrev pub id_text : ℕ → List ℕ
id_text id = decimal (recorder_of id) ++ codes "." ++ decimal (number_of id)
