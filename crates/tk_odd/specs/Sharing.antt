-- What tasks waited in a step, shared out among those that ran in it.
use Rattle.std.specs.Prelude.{ℕ, zero, suc, ◌-◌, ◌*◌, ◌/◌, ◌≤◌, min, List, sum_by}
use Rattle.tk_odd.specs.declared.moved.Moved.{Moved}

-- a whole: parts are counted in 2^32 of it
abbrev pub whole : ℕ
whole = 4294967296

-- during which part of a time a task waited: at most the whole of it, and none where there is no time
abbrev pub part_of : ℕ → ℕ → ℕ
part_of waited zero = 0
part_of waited (suc n) = min whole (waited * whole / suc n)

-- how long all ran
abbrev pub all_ran : List Moved → ℕ
all_ran moved = sum_by (λ x. x.gain.ran) moved

-- how long all waited
abbrev pub all_waited : List Moved → ℕ
all_waited moved = sum_by (λ x. x.gain.waited) moved

-- during which part of the time that others ran a task waited
abbrev pub part_in : List Moved → Moved → ℕ
part_in moved x = part_of x.gain.waited (all_ran moved - x.gain.ran)

-- the parts of all
abbrev pub all_parts : List Moved → ℕ
all_parts moved = sum_by (part_in moved) moved

-- for how long a task held up the others: while it ran, each other waited during its part of that
abbrev pub held_by : List Moved → Moved → ℕ
held_by moved x = x.gain.ran * (all_parts moved - part_in moved x) / whole

-- for how long all tasks held up others
abbrev pub all_held : List Moved → ℕ
all_held moved = sum_by (held_by moved) moved

-- what was waited and is nobody's
abbrev pub nobody : List Moved → ℕ
nobody moved = all_waited moved - all_held moved

-- no more is shared out than was waited
abbrev pub Conserves : List Moved → Type 0
Conserves moved = all_held moved ≤ all_waited moved
