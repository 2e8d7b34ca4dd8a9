-- What a pace has said: each time that it was asked whether a stream may be shown, its answer, and `true` once it was waited for.
use Rattle.std.specs.Prelude.{◌≡◌, ◌++◌, List, Bool, Option, None, Some}

-- where what it had said before is known, it has said this since
abbrev pub Says : Option (List Bool) → Option (List Bool) → List Bool → Type 0
Says None new more = Unit {0}
Says (Some before) None more = ⊥
Says (Some before) (Some after) more = after ≡ before ++ more
