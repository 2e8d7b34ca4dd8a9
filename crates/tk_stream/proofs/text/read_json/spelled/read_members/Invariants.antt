use Rattle.std.proofs.Common.{◌≡◌, ◌≤◌, length}
use Rattle.serde_json.specs.Data.{Members, no_members}
use Rattle.serde_json.specs.View.{members_view}
use Rattle.tk_json.specs.Values.{members_read}
use Rattle.tk_stream.specs.Spelled.{lists_in, own_members}
use Rattle.tk_stream.proofs.text.read_json.spelled.read_members.Given as goal

abbrev pub invariant-members : goal.invariant-members
invariant-members l = record {
  same : (held : Members) × (members_read no_members l.depth l.initial.reader ≡ members_read held l.depth l.reader)
      × (l.lists ≡ lists_in held) × (members_view l.own.entries ≡ own_members held);
  fewer : length l.reader ≤ length l.initial.reader;
}

abbrev pub decreases-members : goal.decreases-members
decreases-members l = length l.reader
