-- Which number an error has.
use Rattle.std.specs.Prelude.{ℕ}
use Rattle.tk_ids.specs.declared.error.IdError.{IdError}
use Rattle.tk_ids.specs.declared.error.IdError.TheVariants.{BadId, IdsSpent, BadName, Memory, BadAttributes}

-- the number that stands for an error where only a number can
abbrev pub code_of : IdError → ℕ
code_of BadId = 1
code_of IdsSpent = 2
code_of BadName = 3
code_of Memory = 4
code_of BadAttributes = 5
