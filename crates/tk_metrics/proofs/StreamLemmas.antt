-- What is written of a stream whose lines were followed.
use Rattle.std.proofs.Common.{◌≡◌, ℕ, List, Option, Ok, Err, subst}
use Rattle.std.specs.Io.KnownBytes.{Appends}
use Rattle.tk_client.specs.Feeding.{ClientView}
use Rattle.tk_client.specs.Warnings.{LintsView}
use Rattle.tk_fault.specs.declared.fault.AppFault.{AppFault}
use Rattle.tk_fault.specs.declared.fault.AppFault.TheVariants as faults
use Rattle.tk_odd.specs.declared.limits.Limits.{Limits}
use Rattle.tk_stream.specs.Sent.{IsCut}
use Rattle.tk_metrics.specs.declared.apart.Apart.{Apart}
use Rattle.tk_metrics.specs.declared.follower.Follower.{Follower}
use Rattle.tk_metrics.specs.Following.{Reads, SawAll}
use Rattle.tk_metrics.proofs.FollowLemmas.{lead_of}
use Rattle.tk_metrics.specs.Streams.{Measures, stream_text, usual}

-- a stream that isn't taken has no numbers
pub measures_none : (limits : Limits) (by : Apart) (lints : LintsView) (given left old new : Option (List ℕ)) (now : ClientView) (l : Follower) (answer : AppFault)
    → Reads by limits given left (Err answer) now l → Measures by lints given left (Err answer) old new
measures_none limits by lints given left old new now l faults.Memory h = tt
measures_none limits by lints given left old new now l faults.Read h = tt
measures_none limits by lints given left old new now l faults.Write h = absurd h
measures_none limits by lints given left old new now l (faults.Script line name) h = absurd h
measures_none limits by lints given left old new now l (faults.Stream lines fault) h = h

module _ (by : Apart) (lints : LintsView) (given left old new : Option (List ℕ)) (client : ClientView) (seen : Follower) (text : List ℕ)
    (told : SawAll by (usual lints) given client seen) (is : text ≡ stream_text by lints client.start.tables told.bytes) where
  -- they went out
  pub measures_all : Appends old new text → Measures by lints given left (Ok tt) old new
  measures_all wrote = record { tables = client.start.tables; lead = lead_of by (usual lints) given client seen told; wrote = subst (Appends old new) is wrote }

  -- a front of them went out
  pub measures_front : (front : List ℕ) → IsCut text front → Appends old new front → Measures by lints given left (Err faults.Write) old new
  measures_front front cut wrote =
      record { tables = client.start.tables; lead = lead_of by (usual lints) given client seen told; front = front; cut = subst (λ t. IsCut t front) is cut; wrote = wrote }
