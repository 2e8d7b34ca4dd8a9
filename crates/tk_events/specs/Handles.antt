-- What a recorder, one that is retired and the taker show.
use Rattle.std.specs.Prelude.{◌≡◌, ℕ, zero, suc, ◌+◌, ◌-◌, ◌^◌, ◌<◌, ◌≤◌, Bool, true, false, List, [], ◌∷◌, ◌++◌, length, map, All, ⊤}
use Rattle.atomic_table.specs.Seated.{TableId}
use Rattle.tk_events.specs.Offers.{Item}
use Rattle.tk_events.specs.declared.item.Offer.{Offer}
use Rattle.tk_events.specs.declared.event.Shown.{Shown}
use Rattle.tk_events.specs.declared.event.Shown.TheVariants.{MadeTask, MadeResource, MadeOp, Polled}
use Rattle.tk_events.specs.declared.limits.Limits.{Limits}
use Rattle.tk_events.specs.declared.buffer.view.Returned.{Returned}
use Rattle.tk_ids.specs.Ids.{id_of}
use Rattle.tk_ids.specs.IdBlocks.{last_number}
use Rattle.tk_events.specs.Offers.{by, earlier, offers_of, dropped_of, tasks_in, resources_in, ops_in, Rises}
use Rattle.tk_events.specs.Buffer.{numbers_known, IsNamed}
use Rattle.tk_cell.specs.Views.{times}

-- a console: its buffer and its counts
pub record Place : Type 0 where
  pub buffer : TableId
  pub counts : TableId

-- the console with this buffer and these counts
abbrev pub place : TableId → TableId → Place
place buffer counts = record { buffer = buffer; counts = counts }

-- totals of dropped events
pub record Totals : Type 0 where
  pub tasks : ℕ
  pub resources : ℕ
  pub ops : ℕ

-- a recorder: its console with its sizes, its number, its offers, and how many of those that were kept it knows to be taken
pub record Recording : Type 0 where
  pub console : Place
  pub capacity : ℕ
  pub recorders : ℕ
  pub limit : ℕ
  pub number : ℕ
  pub kept : List Offer
  pub refused : List Offer
  pub gone : ℕ

-- a recorder that makes no more offers
pub record Retiring : Type 0 where
  pub console : Place
  pub offers : Returned

-- the taker: its console with its sizes, what it took, and what the recorders had offered, once it is finished
pub record Taking : Type 0 where
  pub console : Place
  pub capacity : ℕ
  pub recorders : ℕ
  pub taken : List Offer
  pub known : List Returned
  pub last : Totals
  pub finished : Bool

-- the same recorder, whatever it has offered
pub record IsSameRecorder (old new : Recording) : Type 0 where
  pub console : new.console ≡ old.console
  pub capacity : new.capacity ≡ old.capacity
  pub recorders : new.recorders ≡ old.recorders
  pub limit : new.limit ≡ old.limit
  pub number : new.number ≡ old.number

-- how many offers a recorder has made
abbrev pub offers_made : Recording → ℕ
offers_made r = length r.kept + length r.refused

-- the next offer of a recorder
abbrev pub next_offer : Recording → Shown → Offer
next_offer r event = record { recorder = r.number; number = offers_made r + 1; event = event }

-- the id of the recorder's next task: the number of its offer among those of tasks, kept or dropped
abbrev pub next_task_id : Recording → ℕ
next_task_id r = id_of r.number (tasks_in r.kept + tasks_in r.refused + 1)

-- the id of the recorder's next resource
abbrev pub next_resource_id : Recording → ℕ
next_resource_id r = id_of r.number (resources_in r.kept + resources_in r.refused + 1)

-- the id of the recorder's next operation
abbrev pub next_op_id : Recording → ℕ
next_op_id r = id_of r.number (ops_in r.kept + ops_in r.refused + 1)

-- a recorder with one more offer, which was kept
abbrev pub with_kept : Recording → Offer → Recording
with_kept r o = record r { kept = r.kept ++ o ∷ [] }

-- a recorder with one more offer, which was refused
abbrev pub with_refused : Recording → Offer → Recording
with_refused r o = record r { refused = r.refused ++ o ∷ [] }

-- a recorder that met the taker, which took these: it knows how many of its offers they are
abbrev pub met_with : List Offer → Recording → Recording
met_with taken r = record r { gone = length (by r.number taken) }

-- the totals of what one recorder dropped
abbrev pub dropped_by : Recording → Totals
dropped_by r = record { tasks = dropped_of 0 r.refused; resources = dropped_of 1 r.refused; ops = dropped_of 2 r.refused }

-- a taker that took one more
abbrev pub with_taken : Taking → Offer → Taking
with_taken t o = record t { taken = t.taken ++ o ∷ [] }

-- the events that the taker took
abbrev pub events_of : Taking → List Shown
events_of t = map (λ o. o.event) t.taken

-- a recorder without offers
abbrev pub new_recording : Place → ℕ → ℕ → ℕ → ℕ → Recording
new_recording console capacity recorders limit number = record { console = console; capacity = capacity; recorders = recorders; limit = limit; number = number; kept = []; refused = []; gone = 0 }

-- the recorders 1 to n, without offers
abbrev pub new_recordings : Place → ℕ → ℕ → ℕ → ℕ → List Recording
new_recordings console capacity recorders limit zero = []
new_recordings console capacity recorders limit (suc n) = new_recordings console capacity recorders limit n ++ new_recording console capacity recorders limit (suc n) ∷ []

-- a taker that took nothing
abbrev pub new_taking : Place → ℕ → ℕ → Taking
new_taking console capacity recorders = record { console = console; capacity = capacity; recorders = recorders; taken = []; known = []; last = record { tasks = 0; resources = 0; ops = 0 }; finished = false }

-- the sizes that a console may have
pub record AreWithin (limits : Limits) : Type 0 where
  pub recorders_low : 1 ≤ limits.recorders
  pub recorders_high : limits.recorders ≤ 64
  pub capacity_low : 1 ≤ limits.capacity
  pub capacity_high : limits.capacity ≤ 65536
  pub offers_low : 1 ≤ limits.offers
  pub offers_high : limits.offers ≤ 2 ^ 40 - 1

-- what the recorders had offered
abbrev pub offers_of_all : List Retiring → List Returned
offers_of_all rs = map (λ r. r.offers) rs

-- a taker that is finished with these
abbrev pub finished_with : Taking → List Retiring → Taking
finished_with t rs = record t { known = offers_of_all rs; finished = true }

-- each recorder from 1 to n is among these, once
abbrev pub IsWhole : ℕ → List Returned → Type 0
IsWhole n known = (p : ℕ) → 0 < p → p ≤ n → times p (numbers_known known) ≡ 1

-- the offer of a new item has the id of its recorder and of its place among the recorder's offers of that kind, kept or dropped, in the order of their numbers
abbrev pub HasPlaceId : Returned → ℕ → Shown → Type 0
HasPlaceId r number (MadeTask info ledger caller times) = info.id ≡ id_of r.number (tasks_in (earlier number r.kept) + tasks_in (earlier number r.refused) + 1)
HasPlaceId r number (MadeResource info ledger caller) = info.id ≡ id_of r.number (resources_in (earlier number r.kept) + resources_in (earlier number r.refused) + 1)
HasPlaceId r number (MadeOp info ledger caller) = info.id ≡ id_of r.number (ops_in (earlier number r.kept) + ops_in (earlier number r.refused) + 1)
HasPlaceId r number (Polled op) = ⊤

-- what a recorder had offered has ids of its own: each new item that of its place, and the offers are no more than an id has numbers
pub record HasOwnIds (r : Returned) : Type 0 where
  pub kept : All (λ o. HasPlaceId r o.number o.event) r.kept
  pub refused : All (λ o. HasPlaceId r o.number o.event) r.refused
  pub few : length r.kept + length r.refused ≤ last_number

-- of each recorder that is known, what was taken, and then what is left, is what it kept
abbrev pub AreLeft : Taking → List Offer → Type 0
AreLeft t left = All (λ r. by r.number (t.taken ++ left) ≡ r.kept) t.known

-- of each recorder that is known all that it kept was taken
abbrev pub AllTaken : Taking → Type 0
AllTaken t = All (λ r. by r.number t.taken ≡ r.kept) t.known

-- what holds of a taker that is finished: it knows each recorder of the console, once, and what each had offered has ids of its own; what was taken is theirs, and the numbers of each rise
pub record IsSettled (t : Taking) : Type 0 where
  pub few : t.recorders ≤ 64
  pub whole : IsWhole t.recorders t.known
  pub no_more : length t.known ≡ t.recorders
  pub own_ids : All HasOwnIds t.known
  pub named : All (IsNamed t.recorders) t.taken
  pub rises : Rises t.taken

-- what the buffer held at a moment, as a recorder can tell: its own kept offers, but for the first ones, which are as many as it knows to be taken
-- or more, in order, and otherwise offers of recorders of the console
pub record HeldFor (r : Recording) (items : List Item) : Type 0 where
  pub before : List Offer
  pub mine : by r.number (before ++ offers_of items) ≡ r.kept
  pub gone : r.gone ≤ length (by r.number before)
  pub named : All (IsNamed r.recorders) (offers_of items)

-- how many offers of a kind were refused, of all these recorders
abbrev pub refused_of : ℕ → List Returned → ℕ
refused_of k [] = 0
refused_of k (r ∷ rs) = dropped_of k r.refused + refused_of k rs

-- the totals of dropped events are the numbers of refused offers, by kind
pub record AreExact (known : List Returned) (tasks resources ops : ℕ) : Type 0 where
  pub tasks_are : tasks ≡ refused_of 0 known
  pub resources_are : resources ≡ refused_of 1 known
  pub ops_are : ops ≡ refused_of 2 known
