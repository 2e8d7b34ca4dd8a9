-- How far the keeping of a stream's numbers has come. Inner: no public clause cites this.
use Rattle.std.specs.Prelude.{◌≡◌, ◌≤◌, ◌+◌, ℕ, List, [], ◌∷◌, Bool, true, false, Option, Some, None, Result, Ok, Err}
use Rattle.std.specs.Io.KnownBytes.{Consumes}
use Rattle.tk_client.specs.Feeding.{ClientView}
use Rattle.tk_client.specs.Warnings.{LintsView}
use Rattle.tk_fault.specs.declared.fault.AppFault.{AppFault}
use Rattle.tk_fault.specs.declared.fault.AppFault.TheVariants as faults
use Rattle.tk_reading.specs.Fronts.{Rise, last_lines}
use Rattle.tk_reading.specs.Taken.{HasTaken}
use Rattle.tk_metrics.specs.declared.apart.Apart.{Apart}
use Rattle.tk_metrics.specs.declared.follower.Follower.{Follower}
use Rattle.tk_metrics.specs.declared.keeping.Progress.{Progress}
use Rattle.tk_metrics.specs.Following.{Watches}
use Rattle.tk_metrics.specs.Keeping.{Keeps, PutsAll, numbers_of_all}
use Rattle.tk_metrics.specs.Places.{Gets, Texts}
use Rattle.tk_metrics.specs.Streams.{usual}

-- the fault is a stream's
abbrev pub is_of_stream : AppFault → Bool
is_of_stream (faults.Stream lines fault) = true
is_of_stream other = false

-- the fault is a place's
abbrev pub is_of_place : AppFault → Bool
is_of_place faults.Write = true
is_of_place other = false

-- ---- what is put

-- a text was put, or there was no memory for it, or the place didn't take it
abbrev pub PutsNow : List ℕ → List ℕ → Result (Unit {0}) AppFault → Option Texts → Option Texts → Type 0
PutsNow path text (Ok done) old new = Gets old new ((path, text) ∷ [])
PutsNow path text (Err faults.Memory) old new = Gets old new []
PutsNow path text (Err faults.Write) old new = Gets old new []
PutsNow path text (Err other) old new = ⊥

-- ---- how far a stream is kept

-- what was read is taken, in so many lines, which are followed, and the numbers of rising fronts of it were put, the last of so many lines
pub record Kept (path : List ℕ) (by : Apart) (lints : LintsView) (given left : Option (List ℕ)) (lines : ℕ) (put : Option ℕ) (now : ClientView) (seen : Follower) (old new : Option Texts) : Type 0 where
  pub bytes : List ℕ
  pub read : Consumes given left bytes
  pub taken : HasTaken bytes lines now
  pub follows : Watches by (usual lints) bytes seen
  pub fronts : List (List ℕ)
  pub rise : Rise fronts bytes
  pub last : last_lines fronts ≡ put
  pub puts : Gets old new (numbers_of_all path by lints fronts)

-- the keeping goes on with so many lines, or has stopped
abbrev pub Goes : List ℕ → Apart → LintsView → Option (List ℕ) → Option (List ℕ) → Result ℕ AppFault → Option ℕ → ClientView → Follower → Option Texts → Option Texts → Type 0
Goes path by lints given left (Ok lines) put now seen old new = Kept path by lints given left lines put now seen old new
Goes path by lints given left (Err fault) put now seen old new = Keeps path by lints given left (Err fault) old new

-- the keeping of so many lines goes on after numbers were put or not, or has stopped
abbrev pub Went : List ℕ → Apart → LintsView → Option (List ℕ) → Option (List ℕ) → ℕ → Result (Option ℕ) AppFault → ClientView → Follower → Option Texts → Option Texts → Type 0
Went path by lints given left lines (Ok put) now seen old new = Kept path by lints given left lines put now seen old new
Went path by lints given left lines (Err fault) now seen old new = Keeps path by lints given left (Err fault) old new

-- the keeping goes on from here, has come to the end, or has stopped
abbrev pub Steps : List ℕ → Apart → LintsView → Option (List ℕ) → Option (List ℕ) → Result (Option Progress) AppFault → ClientView → Follower → Option Texts → Option Texts → Type 0
Steps path by lints given left (Ok (Some p)) now seen old new = Kept path by lints given left p.lines p.put now seen old new
Steps path by lints given left (Ok None) now seen old new = PutsAll path by lints given old new
Steps path by lints given left (Err fault) now seen old new = Keeps path by lints given left (Err fault) old new

-- no more lines came than a piece has bytes
abbrev pub IsFew : ℕ → Result (Option Progress) AppFault → Type 0
IsFew lines (Ok (Some p)) = p.lines ≤ lines + 65536
IsFew lines (Ok None) = Unit {0}
IsFew lines (Err fault) = Unit {0}
