use Rattle.std.proofs.Common.{◌≡◌, ℕ, None, false, take, map, cond, nat_eq}
use Rattle.tk_client.specs.Changes.{left_id}
use Rattle.tk_stream.specs.Tables.{is_among}
use Rattle.indexmap.specs.IndexMap.{get}
use Rattle.tk_page.proofs.tracks.Tracks.forget_all.Given as goal

-- those so far are forgotten
abbrev pub invariant-loop-one : goal.invariant-loop-one
invariant-loop-one l = record {
  tasks : (other : ℕ) → get nat_eq l.self.tasks other ≡ cond (is_among (map left_id (take l.one-index l.left)) other) None (get nat_eq l.initial.self.tasks other);
  lasting : (other : ℕ) → is_among l.self.lasting.keys other ≡ cond (is_among (map left_id (take l.one-index l.left)) other) false (is_among l.initial.self.lasting.keys other);
}
