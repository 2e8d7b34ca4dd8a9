use Rattle.std.proofs.Common.{◌≡◌, ◌+◌, ◌*◌, ◌≤◌, length}
use Rattle.serde_json.specs.Data.{Members}
use Rattle.tk_json.specs.Values.{items_read, members_read, rest}
use Rattle.tk_json.proofs.passing.+pass.Given as goal

abbrev pub decreases-pass : goal.decreases-pass
decreases-pass l = 3 * l.depth + 1

abbrev pub decreases-pass_token : goal.decreases-pass_token
decreases-pass_token l = 3 * l.depth

abbrev pub decreases-pass_items : goal.decreases-pass_items
decreases-pass_items l = 3 * l.depth + 2

abbrev pub decreases-pass_members : goal.decreases-pass_members
decreases-pass_members l = 3 * l.depth + 2

abbrev pub invariant-pass_items-items : goal.invariant-pass_items-items
invariant-pass_items-items l = record {
  same : rest (items_read l.depth l.initial.reader) ≡ rest (items_read l.depth l.reader);
  fewer : length l.reader ≤ length l.initial.reader;
}

abbrev pub decreases-pass_items-items : goal.decreases-pass_items-items
decreases-pass_items-items l = length l.reader

abbrev pub invariant-pass_members-members : goal.invariant-pass_members-members
invariant-pass_members-members l = record {
  same : (held : Members) → (now : Members) × (members_read held l.depth l.initial.reader ≡ members_read now l.depth l.reader);
  fewer : length l.reader ≤ length l.initial.reader;
}

abbrev pub decreases-pass_members-members : goal.decreases-pass_members-members
decreases-pass_members-members l = length l.reader
