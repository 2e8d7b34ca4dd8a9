-- The items of one kind with their handles, and what holds inside where only they change: said once for the three kinds.
use Rattle.std.proofs.Common.{◌≡◌, ℕ, suc, ◌≤◌, List, [], ◌∷◌, ◌++◌, length, refl, sym, ap, ◌∙◌, arith}
use Rattle.std.specs.Prelude.{Option}
use Rattle.std.proofs.lemmas.List.{length-append}
use Rattle.tk_core.specs.declared.op.row.OpRow.{OpRow}
use Rattle.tk_core.specs.declared.resource.row.ResourceRow.{ResourceRow}
use Rattle.tk_core.specs.declared.task.row.TaskRow.{TaskRow}
use Rattle.tk_events.specs.declared.event.Event.{Event}
use Rattle.tk_ledgers.specs.Ops.{OpSight}
use Rattle.tk_ledgers.specs.Resources.{ResourceSight}
use Rattle.tk_ledgers.specs.Tasks.{TaskSight}
use Rattle.tk_stream.specs.Fronts.{Telling, ToldView, as_told, with_rows, task_at, resource_at, op_at, counts_at, told_tables}
use Rattle.tk_stream.specs.Tables.{TablesView, PollCounts}
use Rattle.tk_stream.specs.declared.tables.op.Op.{Op}
use Rattle.tk_stream.specs.declared.tables.resource.Resource.{Resource}
use Rattle.tk_stream.specs.declared.tables.task.Task.{Task}
use Rattle.tk_aggregator.specs.Aggregates.{Pairs, ReadTask, ReadResource, ReadOp}
use Rattle.tk_aggregator.specs.Readings.{EachReads}
use Rattle.tk_aggregator.specs.Standing.{IsStanding, ResourceFits, OpFits, TellsSame, told_list}
use Rattle.tk_aggregator.proofs.PairLemmas.{pair_more, pairs_read}
use Rattle.tk_aggregator.proofs.ReadingLemmas.{length-with_rows, with_rows-more}

module _ {Item Handle : Type 0} (P : Item → Handle → Type 0) where
  pub pairs-count : (xs : List Item) (ss : List Handle) → Pairs P xs ss → length ss ≡ length xs
  pairs-count [] [] all = refl
  pairs-count [] (s ∷ ss) all = absurd all
  pairs-count (x ∷ xs) [] all = absurd all
  pairs-count (x ∷ xs) (s ∷ ss) all = ap suc (pairs-count xs ss all.1)

module _ {Item Handle : Type 0} (P Q : Item → Handle → Type 0) where
  -- two relations of the same pairs
  abbrev pub Both : Item → Handle → Type 0
  Both x s = P x s × Q x s

  pairs-both : (xs : List Item) (ss : List Handle) → Pairs P xs ss → Pairs Q xs ss → Pairs Both xs ss
  pairs-both [] [] p q = tt
  pairs-both [] (s ∷ ss) p q = absurd p
  pairs-both (x ∷ xs) [] p q = absurd p
  pairs-both (x ∷ xs) (s ∷ ss) p q = ((p.0, q.0), pairs-both xs ss p.1 q.1)

  pairs-left : (xs : List Item) (ss : List Handle) → Pairs Both xs ss → Pairs P xs ss
  pairs-left [] [] b = tt
  pairs-left [] (s ∷ ss) b = absurd b
  pairs-left (x ∷ xs) [] b = absurd b
  pairs-left (x ∷ xs) (s ∷ ss) b = (b.0.0, pairs-left xs ss b.1)

  pairs-right : (xs : List Item) (ss : List Handle) → Pairs Both xs ss → Pairs Q xs ss
  pairs-right [] [] b = tt
  pairs-right [] (s ∷ ss) b = absurd b
  pairs-right (x ∷ xs) [] b = absurd b
  pairs-right (x ∷ xs) (s ∷ ss) b = (b.0.1, pairs-right xs ss b.1)

pub rows-count : {Handle Row : Type 0} (reads : Handle → Row → Handle → Type 0) (ss : List Handle) (rs : List Row) (ts : List Handle) → EachReads reads ss rs ts → length ss ≡ length rs
rows-count reads [] [] [] all = refl
rows-count reads [] [] (u ∷ ts) all = absurd all
rows-count reads [] (q ∷ rs) ts all = absurd all
rows-count reads (u ∷ ss) [] ts all = absurd all
rows-count reads (u ∷ ss) (q ∷ rs) [] all = absurd all
rows-count reads (u ∷ ss) (q ∷ rs) (v ∷ ts) all = ap suc (rows-count reads ss rs ts all.1)

-- items with their handles; the first ones were told of, and there is room for what is told of each
pub record AreHandled {Item Row Handle : Type 0} (P : Item → Handle → Type 0) (items : List Item) (telling : Telling Row) (handles : List Handle) : Type 0 where
  pub pairs : Pairs P items handles
  pub told : length telling.rows ≤ length items
  pub room : length items ≤ telling.room

-- what holds of items with their handles, where only they change and the same was told of them
module _ {Item Row Handle : Type 0} (with_row : Item → Row → Item) (P : Item → Handle → Type 0) (items : List Item) (telling : Telling Row) (handles : List Handle) (was : AreHandled P items telling handles)
    (Holds : List Item → Telling Row → List Handle → Type 0)
    (holds : (now : List Item) (tells : Telling Row) (hs : List Handle) → AreHandled P now tells hs → told_list with_row now tells ≡ told_list with_row items telling → Holds now tells hs) where
  -- each handle read
  pub holds_read : (reads : Handle → Row → Handle → Type 0) → ((x : Item) (s : Handle) (r : Row) (t : Handle) → P x s → reads s r t → P (with_row x r) t)
      → (rows : List Row) (read : List Handle) (tells : Telling Row) → EachReads reads handles rows read → TellsSame with_row items telling (with_rows with_row items rows) tells
      → Holds (with_rows with_row items rows) tells read
  holds_read reads step rows read tells each alike =
      let count : length items ≡ length rows = sym (pairs-count P items handles was.pairs) ∙ rows-count reads handles rows read each in
      let same : length (with_rows with_row items rows) ≡ length items = length-with_rows with_row items rows count ∙ sym count in
      holds (with_rows with_row items rows) tells read
      (record { pairs = pairs_read P with_row reads step items handles rows read was.pairs each; told = omega (arith, same, was.told, alike.count); room = omega (arith, same, was.room, alike.room) })
      alike.same

  -- one more item, with its handle
  pub holds_more : (x : Item) (s : Handle) (room : ℕ) → P x s → length (items ++ x ∷ []) ≤ room → Holds (items ++ x ∷ []) (record telling { room = room }) (handles ++ s ∷ [])
  holds_more x s room p near =
      holds (items ++ x ∷ []) (record telling { room = room }) (handles ++ s ∷ [])
      (record { pairs = pair_more P items handles x s was.pairs p; told = omega (arith, length-append items (x ∷ []), was.told); room = near })
      (with_rows-more (as_told with_row) items (x ∷ []) telling.rows was.told)

  -- more room
  pub holds_roomier : (room : ℕ) → telling.room ≤ room → Holds items (record telling { room = room }) handles
  holds_roomier room le = holds items (record telling { room = room }) handles (record { pairs = was.pairs; told = was.told; room = omega (arith, was.room, le) }) refl

-- ---- the three kinds

module _ (shown : TablesView) (telling : ToldView) (tasks : List TaskSight) (resources : List ResourceSight) (ops : List OpSight) (held : Option Event) (last : ℕ) where
  abbrev pub TasksStand : List Task → Telling TaskRow → List TaskSight → Type 0
  TasksStand now tells hs =
      IsStanding (record shown { tasks = now }) (record telling { tasks = tells }) hs resources ops held last
      × (told_tables (record telling { tasks = tells }) (record shown { tasks = now }) ≡ told_tables telling shown)

  abbrev pub ResourcesStand : List Resource → Telling ResourceRow → List ResourceSight → Type 0
  ResourcesStand now tells hs =
      IsStanding (record shown { resources = now }) (record telling { resources = tells }) tasks hs ops held last
      × (told_tables (record telling { resources = tells }) (record shown { resources = now }) ≡ told_tables telling shown)

  abbrev pub OpsStand : List Op → Telling OpRow → List OpSight → Type 0
  OpsStand now tells hs =
      IsStanding (record shown { ops = now }) (record telling { ops = tells }) tasks resources hs held last
      × (told_tables (record telling { ops = tells }) (record shown { ops = now }) ≡ told_tables telling shown)

  module _ (stands : IsStanding shown telling tasks resources ops held last) where
    pub tasks_handled : AreHandled ReadTask shown.tasks telling.tasks tasks
    tasks_handled = record { pairs = stands.tasks; told = stands.fits.tasks; room = stands.room.tasks }

    pub resources_handled : AreHandled (Both ReadResource ResourceFits) shown.resources telling.resources resources
    resources_handled = record { pairs = pairs-both ReadResource ResourceFits shown.resources resources stands.resources stands.resources_fit; told = stands.fits.resources; room = stands.room.resources }

    pub ops_handled : AreHandled (Both ReadOp OpFits) shown.ops telling.ops ops
    ops_handled = record { pairs = pairs-both ReadOp OpFits shown.ops ops stands.ops stands.ops_fit; told = stands.fits.ops; room = stands.room.ops }

    pub tasks_stand : (now : List Task) (tells : Telling TaskRow) (hs : List TaskSight) → AreHandled ReadTask now tells hs → told_list task_at now tells ≡ told_list task_at shown.tasks telling.tasks → TasksStand now tells hs
    tasks_stand now tells hs h same =
        let told : told_tables (record telling { tasks = tells }) (record shown { tasks = now }) ≡ told_tables telling shown = λ i. record (told_tables telling shown) { tasks = same i } in (
          record {
            tasks = h.pairs;
            resources = stands.resources;
            ops = stands.ops;
            resources_fit = stands.resources_fit;
            ops_fit = stands.ops_fit;
            fits = record { tasks = h.told; resources = stands.fits.resources; ops = stands.fits.ops; counts = stands.fits.counts };
            room = record { tasks = h.room; resources = stands.room.resources; ops = stands.room.ops; counts = stands.room.counts };
            held = stands.held;
            first = λ zero. told ∙ stands.first zero;
            numbered = stands.numbered;
          },
          told,
        )

    pub resources_stand : (now : List Resource) (tells : Telling ResourceRow) (hs : List ResourceSight) → AreHandled (Both ReadResource ResourceFits) now tells hs → told_list resource_at now tells ≡ told_list resource_at shown.resources telling.resources → ResourcesStand now tells hs
    resources_stand now tells hs h same =
        let told : told_tables (record telling { resources = tells }) (record shown { resources = now }) ≡ told_tables telling shown = λ i. record (told_tables telling shown) { resources = same i } in (
          record {
            tasks = stands.tasks;
            resources = pairs-left ReadResource ResourceFits now hs h.pairs;
            ops = stands.ops;
            resources_fit = pairs-right ReadResource ResourceFits now hs h.pairs;
            ops_fit = stands.ops_fit;
            fits = record { tasks = stands.fits.tasks; resources = h.told; ops = stands.fits.ops; counts = stands.fits.counts };
            room = record { tasks = stands.room.tasks; resources = h.room; ops = stands.room.ops; counts = stands.room.counts };
            held = stands.held;
            first = λ zero. told ∙ stands.first zero;
            numbered = stands.numbered;
          },
          told,
        )

    pub ops_stand : (now : List Op) (tells : Telling OpRow) (hs : List OpSight) → AreHandled (Both ReadOp OpFits) now tells hs → told_list op_at now tells ≡ told_list op_at shown.ops telling.ops → OpsStand now tells hs
    ops_stand now tells hs h same =
        let told : told_tables (record telling { ops = tells }) (record shown { ops = now }) ≡ told_tables telling shown = λ i. record (told_tables telling shown) { ops = same i } in (
          record {
            tasks = stands.tasks;
            resources = stands.resources;
            ops = pairs-left ReadOp OpFits now hs h.pairs;
            resources_fit = stands.resources_fit;
            ops_fit = pairs-right ReadOp OpFits now hs h.pairs;
            fits = record { tasks = stands.fits.tasks; resources = stands.fits.resources; ops = h.told; counts = stands.fits.counts };
            room = record { tasks = stands.room.tasks; resources = stands.room.resources; ops = h.room; counts = stands.room.counts };
            held = stands.held;
            first = λ zero. told ∙ stands.first zero;
            numbered = stands.numbered;
          },
          told,
        )

    -- poll counts, which no handle reads
    pub counts_stand : (now : List PollCounts) (tells : Telling (ℕ × ℕ)) → length tells.rows ≤ length now → length now ≤ tells.room → told_list counts_at now tells ≡ told_list counts_at shown.counts telling.counts
        → IsStanding (record shown { counts = now }) (record telling { counts = tells }) tasks resources ops held last
        × (told_tables (record telling { counts = tells }) (record shown { counts = now }) ≡ told_tables telling shown)
    counts_stand now tells fits near same =
        let told : told_tables (record telling { counts = tells }) (record shown { counts = now }) ≡ told_tables telling shown = λ i. record (told_tables telling shown) { counts = same i } in (
          record {
            tasks = stands.tasks;
            resources = stands.resources;
            ops = stands.ops;
            resources_fit = stands.resources_fit;
            ops_fit = stands.ops_fit;
            fits = record { tasks = stands.fits.tasks; resources = stands.fits.resources; ops = stands.fits.ops; counts = fits };
            room = record { tasks = stands.room.tasks; resources = stands.room.resources; ops = stands.room.ops; counts = near };
            held = stands.held;
            first = λ zero. told ∙ stands.first zero;
            numbered = stands.numbered;
          },
          told,
        )
