-- What is still to come of a reader that holds a part of it. Inner: public clauses cite it only to say what `Until` gives.
use Rattle.std.specs.Prelude.{◌≡◌, ℕ, ◌+◌, ◌≤◌, List, [], ◌∷◌, ◌++◌, length, drop, slice_range, Bool, false, Option, Some, None, option_map, if◌then◌else◌}
use Rattle.std.specs.Io.KnownBytes.{Consumes}
use Rattle.tk_client.specs.Meaning.{cut}
use Rattle.tk_until.specs.Front.{lines_until}

-- bytes that were read and not given: the lines that may be given, the bytes of the next line in which no end was found, those after these,
-- and whether a line came that is later
pub record HeldView : Type 0 where
  pub judged : List ℕ
  pub part : List ℕ
  pub more : List ℕ
  pub ended : Bool

-- nothing yet
abbrev pub nothing_held : HeldView
nothing_held = record { judged = []; part = []; more = []; ended = false }

-- these, as bytes of which so many were given, are lines that may be given, and were searched
abbrev pub held_of : List ℕ → ℕ → ℕ → ℕ → Bool → HeldView
held_of bytes given judged searched ended = record {
  judged = slice_range bytes given judged;
  part = slice_range bytes judged searched;
  more = drop searched bytes;
  ended = ended;
}

-- no more were given than are lines, and so on
abbrev pub InOrder : List ℕ → ℕ → ℕ → ℕ → Type 0
InOrder bytes given judged searched = (given ≤ judged) × (judged ≤ searched) × (searched ≤ length bytes)

-- how many bytes these are
abbrev pub held_len : HeldView → ℕ
held_len v = length v.judged + length v.part + length v.more

-- lines of which the first begins with these bytes
abbrev pub begun_with : List ℕ → List (List ℕ) → List (List ℕ)
begun_with part [] = []
begun_with part (line ∷ lines) = (part ++ line) ∷ lines

-- what is still given up to a moment, where the bytes that are held go on with these
abbrev pub given_until : ℕ → HeldView → List ℕ → List ℕ
given_until until v rest = v.judged ++ (if v.ended then [] else lines_until until (begun_with v.part (cut (v.more ++ rest)).0))

-- what is still given: with no moment, what the reader gives
abbrev pub given : Option ℕ → HeldView → List ℕ → List ℕ
given None v rest = rest
given (Some until) v rest = given_until until v rest

-- the same, where a reader may not say what it still gives
abbrev pub left_until : Option ℕ → HeldView → Option (List ℕ) → Option (List ℕ)
left_until until v remaining = option_map (given until v) remaining

-- the same, with more bytes at the end
abbrev pub with_more : HeldView → List ℕ → HeldView
with_more v bytes = record v { more = v.more ++ bytes }

-- a read gave so many bytes, which are held after the others
abbrev pub Adds : HeldView → HeldView → Option (List ℕ) → Option (List ℕ) → ℕ → Type 0
Adds old new before after n = (bytes : List ℕ) × (new ≡ with_more old bytes) × Consumes before after bytes × (length bytes ≡ n)
