use Rattle.std.proofs.Common.{◌≡◌, ℕ, take}
use Rattle.std.specs.Prelude.{◌||◌}
use Rattle.tk_stream.specs.Tables.{is_among}
use Rattle.tk_page.proofs.tracks.add_lasting.Given as goal

-- those so far are listed
abbrev pub invariant-loop-id : goal.invariant-loop-id
invariant-loop-id l = (other : ℕ) → is_among l.ids.keys other ≡ (is_among (take l.id-index l.lasting) other || is_among l.initial.ids.keys other)
