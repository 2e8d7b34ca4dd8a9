use Rattle.std.proofs.Common.{◌≡◌, slice_get, take}
use Rattle.std.specs.Prelude.{fold}
use Rattle.std.specs.Option.{option_map_or}
use Rattle.tk_stream.specs.Tables.{TablesView}
use Rattle.tk_odd.specs.Inner.{shown}
use Rattle.tk_odd.specs.Keeping.{Keeps}
use Rattle.tk_odd.specs.Members.{with_task}
use Rattle.tk_odd.proofs.members.add_places.Given as goal

-- those at the places so far are added
abbrev pub invariant-loop-place : goal.invariant-loop-place
invariant-loop-place l = (before : TablesView) → Keeps before l.rows
    → shown l.members.entries ≡ fold (λ ms place. option_map_or (with_task before l.tables ms) (slice_get l.tables.tasks place) ms) (shown l.initial.members.entries) (take l.place-index l.places)
