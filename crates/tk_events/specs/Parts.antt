-- Inner: what a recorder and a taker keep in their passes and seats, and what is shown of it. No public clause cites this file.
use Rattle.std.specs.Prelude.{if◌then◌else◌, ◌≡◌, ℕ, ◌+◌, ◌-◌, ◌*◌, ◌^◌, ◌<◌, ◌≤◌, Bool, true, false, List, [], ◌++◌, length, map, All, Option, ⊤}
use Rattle.atomic_table.specs.Seated.{TableId}
use Rattle.atomic_table.specs.declared.shared.Seat.{Seat}
use Rattle.tk_events.specs.declared.counts.view.View.{View as Count}
use Rattle.tk_events.specs.declared.counts.view.Tally.{Tally}
use Rattle.tk_events.specs.declared.counts.view.Role.TheVariants.{Reads as ReadsRole, Adds as AddsRole}
use Rattle.tk_events.specs.Counts.{total_of}
use Rattle.crossbeam_queue.specs.declared.array_queue.Doing.{Doing}
use Rattle.crossbeam_queue.specs.declared.array_queue.Slotted.{Slotted}
use Rattle.crossbeam_queue.specs.Passes.{Pass, view, ruled_capacity, IsPassOf}
use Rattle.tk_events.specs.Offers.{Item}
use Rattle.tk_events.specs.declared.event.Shown.{Shown}
use Rattle.tk_events.specs.declared.event.Shown.TheVariants.{MadeTask, MadeResource, MadeOp, Polled}
use Rattle.tk_events.specs.declared.buffer.view.Role.TheVariants.{Takes, Records}
use Rattle.tk_events.specs.declared.buffer.view.Returned.{Returned}
use Rattle.tk_events.specs.declared.buffer.view.View.{View}
use Rattle.tk_ids.specs.IdBlocks.{Given}
use Rattle.tk_events.specs.Offers.{offers_of, drops_of, tasks_in, resources_in, ops_in, is_task, is_resource, is_op}
use Rattle.tk_events.specs.Buffer.{returned, IsBalanced}
use Rattle.tk_events.specs.Handles.{place, Totals, Recording, Retiring, Taking, IsWhole, HasOwnIds, next_task_id, next_resource_id, next_op_id}

-- a view of the taker that made n recorders
abbrev pub making : ℕ → View → View
making n v = record v { made = n }

-- what the reader of the counts knows when it made n adders
abbrev pub counting : ℕ → Count → Count
counting n v = record v { made = n }

-- a view of the taker that took in these too
abbrev pub knowing : View → List Returned → View
knowing v more = record v { known = v.known ++ more }

-- what an adder's tally says of a recorder that was joined
abbrev pub tally_of : Returned → Tally
tally_of r = record { number = r.number; counts = drops_of r.refused }

-- the totals of what was read last of the words
abbrev pub totals_of : ℕ → List ℕ → Totals
totals_of n words = record { tasks = total_of 0 n words; resources = total_of 1 n words; ops = total_of 2 n words }

-- the ids that a recorder has given out
abbrev pub given : Recording → Given
given r = record { recorder = r.number; tasks = tasks_in r.kept + tasks_in r.refused; resources = resources_in r.kept + resources_in r.refused; ops = ops_in r.kept + ops_in r.refused }

-- the ids that it has given out with one more event
abbrev pub given_with : Recording → Shown → Given
given_with r e = record {
  recorder = r.number;
  tasks = tasks_in r.kept + tasks_in r.refused + (if is_task e then 1 else 0);
  resources = resources_in r.kept + resources_in r.refused + (if is_resource e then 1 else 0);
  ops = ops_in r.kept + ops_in r.refused + (if is_op e then 1 else 0);
}

-- what a recorder has offered
abbrev pub offered : Recording → Returned
offered r = record { number = r.number; kept = r.kept; refused = r.refused }

-- an event of a new item has the recorder's next id of its kind
abbrev pub HasNextId : Recording → Shown → Type 0
HasNextId r (MadeTask info ledger caller times) = info.id ≡ next_task_id r
HasNextId r (MadeResource info ledger caller) = info.id ≡ next_resource_id r
HasNextId r (MadeOp info ledger caller) = info.id ≡ next_op_id r
HasNextId r (Polled op) = ⊤

-- the seat counts what the pass was refused
pub record IsAdding (counts : TableId) (s : Seat ℕ Count) (v : View) : Type 0 where
  pub own : s.table_id ≡ counts
  pub words : counts.words ≡ 3 * v.recorders
  pub few : v.recorders ≤ 64
  pub role : s.me.0.role ≡ AddsRole
  pub adders : s.me.0.adders ≡ v.recorders
  pub number : s.me.0.number ≡ v.number
  pub counted : s.me.0.counts ≡ drops_of v.refused
  pub home : s.me.1 ≡ []

-- the seat knows the tallies of those that the pass took in
pub record IsReading (counts : TableId) (key : ℕ) (s : Seat ℕ Count) (v : View) : Type 0 where
  pub own : s.table_id ≡ counts
  pub words : counts.words ≡ 3 * v.recorders
  pub key_is : key ≡ v.recorders
  pub low : 1 ≤ v.recorders
  pub few : v.recorders ≤ 64
  pub role : s.me.0.role ≡ ReadsRole
  pub adders : s.me.0.adders ≡ v.recorders
  pub size : length s.me.0.seen ≡ 3 * v.recorders
  pub known : s.me.0.known ≡ map tally_of v.known

module _ {Q A : Type 0} where
  abbrev pub recording : Slotted (Option Item) (Doing Item View) Q A → TableId → Pass Item View → ℕ → Recording
  recording q counts p limit = record { console = place q.table.shared.table_id counts; capacity = ruled_capacity q; recorders = (view p).recorders; limit = limit; number = (view p).number; kept = (view p).kept; refused = (view p).refused; gone = (view p).gone }

  abbrev pub taking : Slotted (Option Item) (Doing Item View) Q A → TableId → Pass Item View → Seat ℕ Count → Bool → Taking
  taking q counts p s finished = record { console = place q.table.shared.table_id counts; capacity = ruled_capacity q; recorders = (view p).recorders; taken = (view p).taken; known = (view p).known; last = totals_of (view p).recorders s.me.0.seen; finished = finished }

  pub record IsRecording (q : Slotted (Option Item) (Doing Item View) Q A) (counts : TableId) (p : Pass Item View) (s : Seat ℕ Count) (ids : Given) (made limit : ℕ) : Type 0 where
    pub own : IsPassOf q p
    pub role : (view p).role ≡ Records
    pub ids_are : ids ≡ given (recording q counts p limit)
    pub low : 0 < (view p).number
    pub high : (view p).number ≤ (view p).recorders
    pub made_is : length (view p).kept + length (view p).refused ≡ made
    pub below : All (λ o. o.number ≤ made) (view p).kept
    pub refused_below : All (λ o. o.number ≤ made) (view p).refused
    pub own_ids : HasOwnIds (returned (view p))
    pub room : made ≤ limit
    pub small : limit ≤ 2 ^ 40 - 1
    pub adding : IsAdding counts s (view p)

  pub record IsTaking (q : Slotted (Option Item) (Doing Item View) Q A) (counts : TableId) (key : ℕ) (p : Pass Item View) (s : Seat ℕ Count) (recorders : ℕ) (finished : Bool) : Type 0 where
    pub own : IsPassOf q p
    pub role : (view p).role ≡ Takes
    pub recorders_is : (view p).recorders ≡ recorders
    pub made_is : (view p).made ≡ recorders
    pub left : (left : List Item) × IsBalanced (view p) (offers_of left)
    pub begun : finished ≡ false → (view p).known ≡ []
    pub whole : finished ≡ true → IsWhole recorders (view p).known
    pub own_ids : All HasOwnIds (view p).known
    pub reading : IsReading counts key s (view p)

abbrev pub retiring : Pass Item View → Seat ℕ Count → Retiring
retiring p s = record { console = place p.table_id s.table_id; offers = returned (view p) }

pub record IsRetired (p : Pass Item View) (s : Seat ℕ Count) : Type 0 where
  pub role : (view p).role ≡ Records
  pub home : p.me.1 ≡ []
  pub own_ids : HasOwnIds (returned (view p))
  pub adding : IsAdding s.table_id s (view p)
