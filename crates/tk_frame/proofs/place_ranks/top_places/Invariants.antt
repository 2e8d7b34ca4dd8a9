use Rattle.std.proofs.Common.{◌≡◌, take}
use Rattle.tk_screen.specs.Rankings.{kept}
use Rattle.tk_frame.specs.Queries.{ranked_from, place_key, places_by}
use Rattle.tk_frame.proofs.place_ranks.top_places.Given as goal

-- the first of the items so far
abbrev pub invariant-loop-i : goal.invariant-loop-i
invariant-loop-i l = record {
  items : l.top.items ≡ kept l.rows (ranked_from (place_key l.query) 0 (take l.i (places_by l.query.recent l.odd)));
  room : l.top.room ≡ l.rows;
}
