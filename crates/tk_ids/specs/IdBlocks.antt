-- Which ids a recorder gives out.
use Rattle.std.specs.Prelude.{ℕ, ◌+◌, ◌-◌, ◌^◌, ◌==◌, Bool, ◌&&◌, nat_le, Result, Ok, Err, if◌then◌else◌}
use Rattle.tk_ids.specs.Ids.{id_of}
use Rattle.tk_ids.specs.declared.error.IdError.{IdError}
use Rattle.tk_ids.specs.declared.error.IdError.TheVariants.{IdsSpent}

-- the greatest number of an item
abbrev pub last_number : ℕ
last_number = 2 ^ 40 - 1

-- recorders are 1 to 64
abbrev pub is_recorder : ℕ → Bool
is_recorder r = nat_le 1 r && nat_le r 64

-- a recorder, and how many ids of each kind it has given out
pub record Given : Type 0 where
  pub recorder : ℕ
  pub tasks : ℕ
  pub resources : ℕ
  pub ops : ℕ

-- the recorder is in range, and it has given out no more ids of a kind than there are numbers
abbrev pub is_given : Given → Bool
is_given given = is_recorder given.recorder
    && nat_le given.tasks last_number && nat_le given.resources last_number && nat_le given.ops last_number

-- what a recorder that has given out so many ids of a kind answers next: the id one above, or that there is none
abbrev pub next_id : ℕ → ℕ → Result ℕ IdError
next_id recorder given = if given == last_number then Err IdsSpent else Ok (id_of recorder (given + 1))

-- how many it has given out then
abbrev pub given_after : ℕ → ℕ
given_after given = if given == last_number then given else given + 1
