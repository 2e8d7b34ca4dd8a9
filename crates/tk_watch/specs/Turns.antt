-- When a stream that is watched is drawn: at which of what came.
use Rattle.std.specs.Prelude.{◌≡◌, ◌≤◌, ℕ, List, [], ◌∷◌, ◌++◌, length, fold, nat_lt, Bool, true, ◌&&◌, if◌then◌else◌, Option, None, Some}
use Rattle.std.specs.List.{list_any}
use Rattle.tk_reading.specs.Fronts.{last_lines, lines_in}
use Rattle.tk_reading.specs.Outcomes.{outcome_of}
use Rattle.tk_reading.specs.Pacing.{Says}

-- a piece of the stream was read, and this is what the pace then said: nothing where it was not asked. Or the reader had no more
pub data Turn : Type 0 where
  read : List ℕ → List Bool → Turn
  rested : Turn

-- the bytes that were read, and the fronts of them that are drawn
pub record Drawn : Type 0 where
  pub bytes : List ℕ
  pub fronts : List (List ℕ)

-- nothing was read
abbrev pub undrawn : Drawn
undrawn = record { bytes = []; fronts = [] }

-- so many lines are more than the last screen has, or there was none
abbrev pub is_more : Option ℕ → ℕ → Bool
is_more None lines = true
is_more (Some most) lines = nat_lt most lines

-- lines came since the last screen
abbrev pub has_new : Drawn → Bool
has_new d = is_more (last_lines d.fronts) (lines_in (outcome_of d.bytes))

-- where it may be, and lines came since the last screen, all that was read is drawn
abbrev pub drawn_if : Bool → Drawn → Drawn
drawn_if may d = if may && has_new d then record { bytes = d.bytes; fronts = d.fronts ++ d.bytes ∷ [] } else d

abbrev pub with_piece : List ℕ → Drawn → Drawn
with_piece piece d = record { bytes = d.bytes ++ piece; fronts = d.fronts }

-- what is drawn after a turn: after a piece where the pace said that it may be, and where the reader has no more in any case
abbrev pub after : Drawn → Turn → Drawn
after d (read piece said) = drawn_if (list_any (λ may. may) said) (with_piece piece d)
after d rested = drawn_if true d

-- what is drawn after all turns
abbrev pub drawn_by : List Turn → Drawn
drawn_by turns = fold after undrawn turns

-- what the pace said in all of them
abbrev pub said_in : List Turn → List Bool
said_in [] = []
said_in (read piece said ∷ turns) = said ++ said_in turns
said_in (rested ∷ turns) = said_in turns

-- a piece has at most 65,536 bytes, and the pace is asked after it where lines came since the last screen
abbrev pub IsAsked : Drawn → Turn → Type 0
IsAsked d (read piece said) = (length piece ≤ 65536) × (has_new (with_piece piece d) ≡ true → 1 ≤ length said)
IsAsked d rested = Unit {0}

-- so it is at each turn
abbrev pub AreAsked : Drawn → List Turn → Type 0
AreAsked d [] = Unit {0}
AreAsked d (turn ∷ turns) = IsAsked d turn × AreAsked (after d turn) turns

-- this is drawn after turns at which the pace was asked, and it said in all what was said in them
pub record IsPaced (old new : Option (List Bool)) (drawn : Drawn) : Type 0 where
  pub turns : List Turn
  pub asked : AreAsked undrawn turns
  pub said : Says old new (said_in turns)
  pub draws : drawn_by turns ≡ drawn
