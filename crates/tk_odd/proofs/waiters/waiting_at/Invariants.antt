use Rattle.std.proofs.Common.{◌≡◌, [], slice_get, take}
use Rattle.std.specs.Prelude.{fold}
use Rattle.std.specs.Option.{option_map_or}
use Rattle.tk_odd.specs.Keeping.{with_waiter}
use Rattle.tk_odd.proofs.waiters.waiting_at.Given as goal

-- those at the places so far
abbrev pub invariant-loop-place : goal.invariant-loop-place
invariant-loop-place l = l.rows.entries ≡ fold (λ rows place. option_map_or (with_waiter rows) (slice_get l.tables.tasks place) rows) [] (take l.place-index l.places)
