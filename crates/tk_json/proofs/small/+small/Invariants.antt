use Rattle.std.proofs.Common.{◌≡◌, ◌+◌, ◌*◌, ◌≤◌, length, map}
use Rattle.json.specs.Json.{parse_map}
use Rattle.serde_json.specs.Data.{Members, no_members}
use Rattle.serde_json.specs.Events.{items_len}
use Rattle.serde_json.specs.View.{view, members_view}
use Rattle.tk_json.specs.Small.{small_items, small_members, array_within}
use Rattle.tk_json.specs.Values.{items_read, members_read}
use Rattle.tk_json.proofs.Growing.{kept_array}
use Rattle.tk_json.proofs.small.+small.Given as goal

abbrev pub decreases-read_items : goal.decreases-read_items
decreases-read_items l = 2 * l.depth + 1

abbrev pub decreases-read_members : goal.decreases-read_members
decreases-read_members l = 2 * l.depth + 1

abbrev pub decreases-read_small : goal.decreases-read_small
decreases-read_small l = 2 * l.depth

abbrev pub invariant-read_items-items : goal.invariant-read_items-items
invariant-read_items-items l = record {
  same : parse_map (λ ds. array_within (items_len ds) (small_items ds l.levels)) (items_read l.depth l.initial.reader)
      ≡ parse_map (kept_array l.levels (map view l.found.items)) (items_read l.depth l.reader);
  narrow : length l.found.items ≤ 14;
  fewer : length l.reader ≤ length l.initial.reader;
}

abbrev pub decreases-read_items-items : goal.decreases-read_items-items
decreases-read_items-items l = length l.reader

abbrev pub invariant-read_members-members : goal.invariant-read_members-members
invariant-read_members-members l = record {
  same : (held : Members) × (members_read no_members l.depth l.initial.reader ≡ members_read held l.depth l.reader)
      × (members_view l.found.entries ≡ small_members held l.levels);
  narrow : length l.found.entries ≤ 17;
  fewer : length l.reader ≤ length l.initial.reader;
}

abbrev pub decreases-read_members-members : goal.decreases-read_members-members
decreases-read_members-members l = length l.reader
