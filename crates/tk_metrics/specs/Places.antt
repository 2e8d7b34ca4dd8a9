-- What a place holds: under each path the text that was last put there.
use Rattle.std.specs.Prelude.{◌≡◌, List, [], ◌∷◌, ◌++◌, ℕ, Option, None, Some, Result, MatchResult}

-- the texts that a place was given, each with its path, in their order
abbrev pub Texts : Type 0
Texts = List (List ℕ × List ℕ)

-- where those before are known, these came after them
abbrev pub Gets : Option Texts → Option Texts → Texts → Type 0
Gets None new more = Unit {0}
Gets (Some before) None more = ⊥
Gets (Some before) (Some after) more = after ≡ before ++ more

-- a text was put under a path, and at an error none was
abbrev pub GetsText : {E : Type 0} → Option Texts → Option Texts → Result (Unit {0}) E → List ℕ → List ℕ → Type 0
GetsText old new result path text = MatchResult result (λ done. Gets old new ((path, text) ∷ [])) (λ error. Gets old new [])
