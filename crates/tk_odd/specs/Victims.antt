-- Who waited for those that are charged, by places.
use Rattle.std.specs.Prelude.{ℕ, ◌+◌, ◌*◌, ◌/◌, ◌==◌, nat_le, nat_lt, Bool, true, false, ◌&&◌, ◌||◌, List, [], ◌∷◌, ◌++◌, drop, take, length, fold, Option, Some, None, codes, decimal, if◌then◌else◌}
use Rattle.std.specs.Option.{option_map_or}
use Rattle.std.specs.Str.{bytes_eq}
use Rattle.tk_core.specs.Lists.{capped}
use Rattle.tk_series.specs.Series.{with_value}
use Rattle.tk_odd.specs.declared.moved.Moved.{Moved}
use Rattle.tk_odd.specs.declared.waited.Waited.{Waited}
use Rattle.tk_odd.specs.Apart.{is_apart}
use Rattle.tk_odd.specs.Charging.{charge_of}
use Rattle.tk_odd.specs.Members.{Member, looked_at, moved_of}
use Rattle.tk_odd.specs.Sharing.{part_in, whole}

-- for how long a task held up another, at least: while it ran, the other waited during its part of that, but for one whose waits are known to lie apart
abbrev pub held_for : ℕ → List Moved → Moved → Moved → ℕ
held_for now moved x y = if x.task == y.task || is_apart now x y then 0 else x.gain.ran * part_in moved y / whole

-- how long tasks waited, and others
abbrev pub plus_waited : Waited → Waited → Waited
plus_waited a b = record { time = capped (a.time + b.time) }

-- how a text begins that names a place and another: how long the place is, and the place
abbrev pub begin_of : List ℕ → List ℕ
begin_of place = decimal (length place) ++ 32 ∷ place

-- the place of who held up, and of who waited
abbrev pub pair_of : List ℕ → List ℕ → List ℕ
pair_of place victim = begin_of place ++ victim

-- what tasks of places waited for those of others
abbrev pub Pairs : Type 0
Pairs = List (List ℕ × Waited)

-- with what a task waited for another that is charged
abbrev pub with_victim : ℕ → List Moved → Member → Pairs → Member → Pairs
with_victim now moved x pairs y =
    if nat_le 1 (held_for now moved x.2 y.2)
    then with_value plus_waited (pair_of x.1 y.1) (record { time = capped (held_for now moved x.2 y.2) }) pairs
    else pairs

-- with what all waited for a task, where it is charged
abbrev pub with_charged : ℕ → ℕ → ℕ → List Member → Pairs → Member → Pairs
with_charged long time now members pairs x =
    let moved = moved_of members in
    if nat_le 1 (charge_of long time now moved x.2) then fold (with_victim now moved x) pairs (looked_at members) else pairs

-- after a step of this time that ends now
abbrev pub pairs_after : ℕ → ℕ → ℕ → List Member → Pairs → Pairs
pairs_after long time now members pairs = fold (with_charged long time now members) pairs (looked_at members)

-- ---- of one place

-- a text begins with another
abbrev pub starts_with : List ℕ → List ℕ → Bool
starts_with text begin = bytes_eq (take (length begin) text) begin

-- a pair is of a place, and longer than the longest so far
abbrev pub is_longer : List ℕ → Option (List ℕ × ℕ) → List ℕ × Waited → Bool
is_longer place most pair =
    starts_with pair.0 (begin_of place) && option_map_or (λ (m : List ℕ × ℕ). nat_lt m.1 pair.1.time) most true

-- the longest so far, after a pair more
abbrev pub most_with : List ℕ → Option (List ℕ × ℕ) → List ℕ × Waited → Option (List ℕ × ℕ)
most_with place most pair =
    if is_longer place most pair then Some (drop (length (begin_of place)) pair.0, pair.1.time) else most

-- the place whose tasks waited longest for those of a place, and for how long; of equals the one that came first
abbrev pub most_held : List ℕ → Pairs → Option (List ℕ × ℕ)
most_held place pairs = fold (most_with place) None pairs
