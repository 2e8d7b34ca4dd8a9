-- How a strip's boxes and steps stand to the whole.
use Rattle.std.specs.Prelude.{◌≡◌, ℕ, ◌+◌, ◌≤◌, List, [], ◌∷◌}
use Rattle.tk_page.specs.declared.sample.Sample.{Sample}
use Rattle.tk_page.specs.declared.boxes.Area.{Area}

-- a box stays within a drawing that is so wide and so high: it ends at the right edge or before it, stands at the lower edge or above it, and
-- doesn't rise over the upper edge
pub record IsWithin (wide high : ℕ) (area : Area) : Type 0 where
  pub across : area.x + area.wide ≤ wide
  pub down : area.base ≤ high
  pub up : area.high ≤ area.base

-- a number doesn't fall from a sample to the next, and stays as it is if no time passed
abbrev pub Rises : (Sample → ℕ) → Sample → List Sample → Type 0
Rises number before [] = Unit {0}
Rises number before (s ∷ ss) = (number before ≤ number s) × ((s.now ≤ before.now → number s ≡ number before) × Rises number s ss)
