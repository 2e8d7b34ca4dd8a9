-- Events, what is seen of them, and offers.
use Rattle.std.specs.Prelude.{ℕ, ◌<◌, ◌==◌, nat_lt, Bool, true, false, List, [], ◌∷◌, Option, map, count_by}
use Rattle.std.specs.List.{filter, AllPairs}
use Rattle.std.specs.Option.{option_map}
use Rattle.atomic_table.specs.Seated.{TableId}
use Rattle.tk_ledgers.specs.Handles.{KnownTimes}
use Rattle.tk_events.specs.declared.event.Event.{Event}
use Rattle.tk_events.specs.declared.event.Event.TheVariants.{Task, Resource, Op, Poll}
use Rattle.tk_events.specs.declared.event.Shown.{Shown}
use Rattle.tk_events.specs.declared.event.Shown.TheVariants.{MadeTask, MadeResource, MadeOp, Polled}
use Rattle.tk_events.specs.declared.item.Offer.{Offer}

-- the ledger of a histogram, where there is one
abbrev pub times_ledger : Option KnownTimes → Option TableId
times_ledger times = option_map (λ (t : KnownTimes). t.ledger) times

-- what is seen of an event: its info or its poll, and of an inspector the ledger and the caller, and the ledger of the task's histogram
abbrev pub shown : Event → Shown
shown (Task info inspector) = MadeTask info inspector.token.ledger inspector.token.view.caller (times_ledger inspector.times)
shown (Resource info inspector) = MadeResource info inspector.token.ledger inspector.token.view.caller
shown (Op info inspector) = MadeOp info inspector.token.ledger inspector.token.view.caller
shown (Poll op) = Polled op

-- an item of the buffer: an event with its recorder and the number of its offer
pub record Item : Type 0 where
  pub recorder : ℕ
  pub number : ℕ
  pub event : Event

-- the item of this event
abbrev pub item : ℕ → ℕ → Event → Item
item recorder number event = record { recorder = recorder; number = number; event = event }

-- the offer that an item of the buffer is
abbrev pub offer_of : Item → Offer
offer_of x = record { recorder = x.recorder; number = x.number; event = shown x.event }

-- the offers that the buffer holds
abbrev pub offers_of : List Item → List Offer
offers_of items = map offer_of items

-- the offers of one recorder
abbrev pub by : ℕ → List Offer → List Offer
by p offers = filter (λ o. o.recorder == p) offers

-- the numbers of each recorder rise
abbrev pub Rises : List Offer → Type 0
Rises offers = (p : ℕ) → AllPairs (λ earlier later. earlier.number < later.number) (by p offers)

-- the offers that were made before the one with this number
abbrev pub earlier : ℕ → List Offer → List Offer
earlier number offers = filter (λ o. nat_lt o.number number) offers

-- the kind under which a dropped event is counted: 0 for tasks, 1 for resources and polls of operations, 2 for operations
abbrev pub kind_of : Shown → ℕ
kind_of (MadeTask info ledger caller times) = 0
kind_of (MadeResource info ledger caller) = 1
kind_of (MadeOp info ledger caller) = 2
kind_of (Polled op) = 1

-- how many of the offers have this kind
abbrev pub dropped_of : ℕ → List Offer → ℕ
dropped_of k offers = count_by (λ o. kind_of o.event == k) offers

-- how many of the offers have each kind
abbrev pub drops_of : List Offer → List ℕ
drops_of offers = dropped_of 0 offers ∷ dropped_of 1 offers ∷ dropped_of 2 offers ∷ []

-- an offer of a new task
abbrev pub is_task : Shown → Bool
is_task (MadeTask info ledger caller times) = true
is_task (MadeResource info ledger caller) = false
is_task (MadeOp info ledger caller) = false
is_task (Polled op) = false

-- an offer of a new resource
abbrev pub is_resource : Shown → Bool
is_resource (MadeTask info ledger caller times) = false
is_resource (MadeResource info ledger caller) = true
is_resource (MadeOp info ledger caller) = false
is_resource (Polled op) = false

-- an offer of a new operation
abbrev pub is_op : Shown → Bool
is_op (MadeTask info ledger caller times) = false
is_op (MadeResource info ledger caller) = false
is_op (MadeOp info ledger caller) = true
is_op (Polled op) = false

-- how many of the offers are of new tasks
abbrev pub tasks_in : List Offer → ℕ
tasks_in offers = count_by (λ o. is_task o.event) offers

-- how many of the offers are of new resources
abbrev pub resources_in : List Offer → ℕ
resources_in offers = count_by (λ o. is_resource o.event) offers

-- how many of the offers are of new operations
abbrev pub ops_in : List Offer → ℕ
ops_in offers = count_by (λ o. is_op o.event) offers
