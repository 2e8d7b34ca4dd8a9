use Rattle.std.proofs.Common.{◌≡◌, take, length}
use Rattle.std.specs.Prelude.{filter}
use Rattle.tk_frame.specs.Queries.{is_place_shown, places_by}
use Rattle.tk_frame.proofs.place_ranks.places_count.Given as goal

-- how many of the places so far are shown
abbrev pub invariant-loop-i : goal.invariant-loop-i
invariant-loop-i l = l.count ≡ length (filter (is_place_shown l.query) (take l.i (places_by l.query.recent l.odd)))
