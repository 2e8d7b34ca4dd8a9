-- What is kept of one element. No public clause cites this.
use Rattle.std.specs.Prelude.{List, [], ◌∷◌, Bool, if◌then◌else◌}

-- one, where it is kept
abbrev pub kept : {A : Type 0} → Bool → A → List A
kept b x = if b then x ∷ [] else []
