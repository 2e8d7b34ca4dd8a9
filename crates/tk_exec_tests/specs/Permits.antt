-- What a work does that takes a permit of a resource in a poll, and what it records of that.
use Rattle.std.specs.Prelude.{◌≡◌, Bool, true, false, ◌⊎◌}
use Rattle.futures.specs.declared.task.Poll.{Poll}
use Rattle.futures.specs.declared.task.Poll.TheVariants.{Ready, Pending}
use Rattle.tk_core.specs.declared.attrs.AttrOp.TheVariants.{Add, Sub}
use Rattle.tk_core.specs.declared.reply.Refusal.{Refusal}
use Rattle.tk_core.specs.declared.reply.Reply.TheVariants.{Done, Refused}
use Rattle.tk_core.specs.declared.resource.call.ResourceCall.{ResourceCall}
use Rattle.tk_core.specs.declared.resource.call.ResourceCall.TheVariants.{Attr}
use Rattle.tk_core.specs.ResourceMeaning.{resource_meaning}
use Rattle.tk_cell.specs.Calls.{Calls}
use Rattle.tk_events.specs.declared.event.PollOp.{PollOp}
use Rattle.tk_events.specs.declared.event.Shown.TheVariants.{Polled}
use Rattle.tk_events.specs.Handles.{Recording, offers_made, next_offer, with_kept, with_refused}
use Rattle.tk_exec.specs.Scopes.{WakesItself}
use Rattle.tk_ids.specs.declared.attr.AttrValue.TheVariants.{U64}
use Rattle.tk_ledgers.specs.Resources.{ResourceSight}
use Rattle.tk_ledgers.specs.Scopes.{Scoped}
use Rattle.tk_exec_tests.specs.declared.permits.TakePermit.{TakePermit}

-- one permit less is left: of 0 it is refused
abbrev pub takes_one : ResourceCall
takes_one = Attr 0 (Sub (U64 1))

-- one permit more is left
abbrev pub gives_one : ResourceCall
gives_one = Attr 0 (Add (U64 1))

-- a permit was taken, or the call refused
abbrev pub TakesOne : Bool → ResourceSight → ResourceSight → Type 0
TakesOne true old new = Calls resource_meaning old.token.view takes_one Done new.token.view
TakesOne false old new = (refusal : Refusal) × Calls resource_meaning old.token.view takes_one (Refused refusal) new.token.view

-- a permit was given back, or the call refused, as by a resource that is closed
abbrev pub GivesOne : ResourceSight → ResourceSight → Type 0
GivesOne old new = Calls resource_meaning old.token.view gives_one Done new.token.view ⊎ ((refusal : Refusal) × Calls resource_meaning old.token.view gives_one (Refused refusal) new.token.view)

-- this poll of an operation is the recorder's one more offer, kept or dropped. Where it has made all its offers, none is made
abbrev pub OffersPoll : Recording → PollOp → Recording → Type 0
OffersPoll old op new =
    (new ≡ with_kept old (next_offer old (Polled op)))
    ⊎ ((new ≡ with_refused old (next_offer old (Polled op))) ⊎ ((offers_made old ≡ old.limit) × (new ≡ old)))

-- a try as a poll of the operation, which is ready where a permit was taken
abbrev pub try_of : TakePermit → Bool → PollOp
try_of work taken = record { resource = work.user.id; name = work.name; task = work.task; op = work.op; ready = taken }

-- the resource, the operation and the task stay
pub record Stays (old new : TakePermit) : Type 0 where
  pub resource : new.user.id ≡ old.user.id
  pub ledger : new.user.token.ledger ≡ old.user.token.ledger
  pub op : new.op ≡ old.op
  pub task : new.task ≡ old.task
  pub name : new.name ≡ old.name

-- the try is told, and all else stays. Where there was no memory for its name nobody is told
pub record TellsTry (old : TakePermit) (taken : Bool) (new : TakePermit) : Type 0 where
  pub user : new.user ≡ old.user
  pub op : new.op ≡ old.op
  pub task : new.task ≡ old.task
  pub name : new.name ≡ old.name
  pub holds : new.holds ≡ old.holds
  pub told : OffersPoll old.recorder (try_of old taken) new.recorder ⊎ (new.recorder ≡ old.recorder)

-- one try to take a permit, which is told as one poll of the operation, but where there was no memory for its name
pub record Tries (old : TakePermit) (new : TakePermit) : Type 0 where
  pub stays : Stays old new
  pub taken : TakesOne new.holds old.user new.user
  pub recorded : OffersPoll old.recorder (try_of old new.holds) new.recorder ⊎ (new.recorder ≡ old.recorder)

-- the permit is given back, which is told nobody
pub record GivesBack (old new : TakePermit) : Type 0 where
  pub stays : Stays old new
  pub holds : new.holds ≡ false
  pub given : GivesOne old.user new.user
  pub recorder : new.recorder ≡ old.recorder

-- one that holds a permit gives it back and is ready, without a call of its scope; another tries to take one, and wakes itself
abbrev pub permit_polls : TakePermit → Scoped → Poll (Unit {0}) → TakePermit → Scoped → Type 0
permit_polls work scope (Ready x) after scope' = (work.holds ≡ true) × GivesBack work after × (scope' ≡ scope)
permit_polls work scope Pending after scope' = (work.holds ≡ false) × Tries work after × WakesItself scope scope'
