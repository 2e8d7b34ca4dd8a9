-- What infos and poll counts are once all was taken in that the recorders kept.
use Rattle.std.specs.Prelude.{◌≡◌, ℕ, ◌+◌, ◌<◌, ◌==◌, nat_eq, Bool, false, not, ◌&&◌, ◌⊎◌, List, [], ◌∷◌, map, All, count_by, Option, None, Some}
use Rattle.std.specs.List.{filter, flat_map, IsDistinct}
use Rattle.tk_cell.specs.Views.{times}
use Rattle.tk_events.specs.declared.buffer.view.Returned.{Returned}
use Rattle.tk_events.specs.declared.item.Offer.{Offer}
use Rattle.tk_events.specs.Buffer.{numbers_known}
use Rattle.tk_ids.specs.Ids.{recorder_of}
use Rattle.tk_ids.specs.declared.info.OpInfo.{OpInfo}
use Rattle.tk_ids.specs.declared.info.ResourceInfo.{ResourceInfo}
use Rattle.tk_ids.specs.declared.info.TaskInfo.{TaskInfo}
use Rattle.tk_stream.specs.Tables.{PollCounts, counts_of}
use Rattle.tk_aggregator.specs.Absorbing.{Infos}
use Rattle.tk_aggregator.specs.Contents.{Content, content_of, made_task, made_resource, made_op, polled}

-- the new task that is told of, if it is a task
abbrev pub task_told : Content → List TaskInfo
task_told (made_task info) = info ∷ []
task_told (made_resource info) = []
task_told (made_op info) = []
task_told (polled resource ready) = []

-- the new resource that is told of, if it is a resource
abbrev pub resource_told : Content → List ResourceInfo
resource_told (made_task info) = []
resource_told (made_resource info) = info ∷ []
resource_told (made_op info) = []
resource_told (polled resource ready) = []

-- the new async operation that is told of, if it is one
abbrev pub op_told : Content → List OpInfo
op_told (made_task info) = []
op_told (made_resource info) = []
op_told (made_op info) = info ∷ []
op_told (polled resource ready) = []

-- a poll operation of this resource is told of, which was ready
abbrev pub is_ready_poll : ℕ → Content → Bool
is_ready_poll id (made_task info) = false
is_ready_poll id (made_resource info) = false
is_ready_poll id (made_op info) = false
is_ready_poll id (polled resource ready) = resource == id && ready

-- one that was pending
abbrev pub is_pending_poll : ℕ → Content → Bool
is_pending_poll id (made_task info) = false
is_pending_poll id (made_resource info) = false
is_pending_poll id (made_op info) = false
is_pending_poll id (polled resource ready) = resource == id && not ready

-- all that recorders kept
abbrev pub kept_by_all : List Returned → List Offer
kept_by_all known = flat_map (λ r. r.kept) known

-- infos are of the items of one kind that these recorders kept: those of each recorder in its order, none of another recorder,
-- and none twice
pub record AreTheKept {Info : Type 0} (id_of : Info → ℕ) (told : Content → List Info) (known : List Returned) (infos : List Info) : Type 0 where
  pub in_order : All (λ r. filter (λ info. recorder_of (id_of info) == r.number) infos ≡ flat_map (λ o. told (content_of o.event)) r.kept) known
  pub theirs : All (λ info. 0 < times (recorder_of (id_of info)) (numbers_known known)) infos
  pub once : IsDistinct nat_eq (map id_of infos)

-- just what these recorders kept is there: their new items, and of each resource with poll operations the totals of these
pub record HoldAllKept (infos : Infos) (known : List Returned) : Type 0 where
  pub tasks : AreTheKept (λ (i : TaskInfo). i.id) task_told known infos.tasks
  pub resources : AreTheKept (λ (i : ResourceInfo). i.id) resource_told known infos.resources
  pub ops : AreTheKept (λ (i : OpInfo). i.id) op_told known infos.ops
  pub polls : (resource : ℕ) → counts_of resource infos.counts ≡ (count_by (λ o. is_ready_poll resource (content_of o.event)) (kept_by_all known), count_by (λ o. is_pending_poll resource (content_of o.event)) (kept_by_all known))
  pub polled : All (λ (c : PollCounts). 0 < c.1 + c.2) infos.counts

-- a list has some elements of another, in their order
abbrev pub AreSomeOf : {A : Type 0} → List A → List A → Type 0
AreSomeOf [] all = Unit {0}
AreSomeOf (x ∷ xs) [] = ⊥
AreSomeOf (x ∷ xs) (y ∷ ys) = ((x ≡ y) × AreSomeOf xs ys) ⊎ AreSomeOf (x ∷ xs) ys

-- of just what these recorders kept some items are there, in order, and all poll counts
pub record HoldSomeKept (infos : Infos) (known : List Returned) : Type 0 where
  pub all : Infos
  pub kept : HoldAllKept all known
  pub tasks : AreSomeOf infos.tasks all.tasks
  pub resources : AreSomeOf infos.resources all.resources
  pub ops : AreSomeOf infos.ops all.ops
  pub counts : infos.counts ≡ all.counts

-- what these recorders kept is there: all of it, or, where items leave, some of it
abbrev pub HoldKept : Option ℕ → Infos → List Returned → Type 0
HoldKept None infos known = HoldAllKept infos known
HoldKept (Some retention) infos known = HoldSomeKept infos known
