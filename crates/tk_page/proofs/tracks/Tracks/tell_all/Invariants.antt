use Rattle.std.proofs.Common.{◌≡◌, ℕ, take, cond, nat_eq}
use Rattle.std.specs.List.{IsDistinct}
use Rattle.indexmap.specs.IndexMap.{get}
use Rattle.tk_stream.specs.Tables.{is_among}
use Rattle.tk_odd.specs.Keeping.{lasts_in, row_in}
use Rattle.tk_page.specs.Kept.{told_track}
use Rattle.tk_page.proofs.tracks.Tracks.tell_all.Given as goal

-- those so far have the row that they have now
abbrev pub invariant-loop-id : goal.invariant-loop-id
invariant-loop-id l = record {
  tasks : IsDistinct nat_eq l.told → (other : ℕ) → get nat_eq l.self.tasks other
      ≡ cond (is_among (take l.id-index l.told) other) (told_track l.moments l.tables.now (row_in l.tables other) (get nat_eq l.initial.self.tasks other)) (get nat_eq l.initial.self.tasks other);
  lasting : (other : ℕ) → is_among l.self.lasting.keys other ≡ cond (is_among (take l.id-index l.told) other) (lasts_in l.tables other) (is_among l.initial.self.lasting.keys other);
}
