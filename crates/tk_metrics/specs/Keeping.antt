-- What a place is given of a stream whose numbers are kept there, under a path.
use Rattle.std.specs.Prelude.{◌≡◌, ◌⊎◌, ℕ, List, [], ◌∷◌, ◌++◌, map, Option, Result, Ok, Err}
use Rattle.std.specs.Io.KnownBytes.{Consumes}
use Rattle.tk_client.specs.declared.fault.Fault.{Fault}
use Rattle.tk_client.specs.Meaning.{Outcome, Start, goes, stops}
use Rattle.tk_client.specs.Warnings.{LintsView}
use Rattle.tk_fault.specs.declared.fault.AppFault.{AppFault}
use Rattle.tk_fault.specs.declared.fault.AppFault.TheVariants as faults
use Rattle.tk_reading.specs.Fronts.{IsFront, Rise, tables_in}
use Rattle.tk_reading.specs.Outcomes.{AreAll, outcome_of}
use Rattle.tk_stream.specs.Tables.{TablesView}
use Rattle.tk_metrics.specs.declared.apart.Apart.{Apart}
use Rattle.tk_metrics.specs.Places.{Gets, Texts}
use Rattle.tk_metrics.specs.Streams.{stream_text}

-- the numbers of what these bytes of a stream come to
abbrev pub numbers_of : Apart → LintsView → List ℕ → List ℕ
numbers_of by lints bytes = stream_text by lints (tables_in (outcome_of bytes)) bytes

-- the numbers of each of these fronts of a stream, under a path
abbrev pub numbers_of_all : List ℕ → Apart → LintsView → List (List ℕ) → Texts
numbers_of_all path by lints fronts = map (λ front. (path, numbers_of by lints front)) fronts

-- all bytes were read, and have no fault. The numbers of rising fronts of them were put, and at last those of all
pub record PutsAll (path : List ℕ) (by : Apart) (lints : LintsView) (given : Option (List ℕ)) (old new : Option Texts) : Type 0 where
  pub bytes : List ℕ
  pub all : AreAll given bytes
  pub start : Start
  pub lines : ℕ
  pub come : outcome_of bytes ≡ goes start lines
  pub fronts : List (List ℕ)
  pub rise : Rise fronts bytes
  pub put : Gets old new (numbers_of_all path by lints (fronts ++ bytes ∷ []))

-- bytes were read, and the numbers of rising fronts of them were put
pub record PutsSome (path : List ℕ) (by : Apart) (lints : LintsView) (given left : Option (List ℕ)) (old new : Option Texts) : Type 0 where
  pub bytes : List ℕ
  pub read : Consumes given left bytes
  pub fronts : List (List ℕ)
  pub rise : Rise fronts bytes
  pub put : Gets old new (numbers_of_all path by lints fronts)

-- bytes stop by a fault
abbrev pub HasStopped : Outcome → Type 0
HasStopped (goes start lines) = ⊥
HasStopped (stops tables lines fault used) = Unit {0}

-- bytes were read, and are all or have a fault. The numbers of rising fronts of them were put before, and the place didn't take the last ones
pub record PutsBefore (path : List ℕ) (by : Apart) (lints : LintsView) (given left : Option (List ℕ)) (old new : Option Texts) : Type 0 where
  pub bytes : List ℕ
  pub read : Consumes given left bytes
  pub ended : AreAll given bytes ⊎ HasStopped (outcome_of bytes)
  pub fronts : List (List ℕ)
  pub rise : Rise fronts bytes
  pub put : Gets old new (numbers_of_all path by lints fronts)

-- so it was, what was read has this fault after so many lines that are applied, and at last the numbers of these lines were put
pub record PutsUpTo (path : List ℕ) (by : Apart) (lints : LintsView) (given left : Option (List ℕ)) (lines : ℕ) (fault : Fault) (old new : Option Texts) : Type 0 where
  pub bytes : List ℕ
  pub read : Consumes given left bytes
  pub tables : TablesView
  pub used : ℕ
  pub stop : outcome_of bytes ≡ stops tables lines fault used
  pub good : List ℕ
  pub front : IsFront good bytes
  pub start : Start
  pub come : outcome_of good ≡ goes start lines
  pub fronts : List (List ℕ)
  pub rise : Rise fronts good
  pub put : Gets old new (numbers_of_all path by lints (fronts ++ good ∷ []))

-- what keeping the numbers of a stream came to, by its answer: of the reader's bytes that were given and those that are left, and
-- of the place's texts before and after
abbrev pub Keeps : List ℕ → Apart → LintsView → Option (List ℕ) → Option (List ℕ) → Result (Unit {0}) AppFault → Option Texts → Option Texts → Type 0
Keeps path by lints given left (Ok done) old new = PutsAll path by lints given old new
Keeps path by lints given left (Err (faults.Stream lines fault)) old new = PutsUpTo path by lints given left lines fault old new
Keeps path by lints given left (Err faults.Write) old new = PutsBefore path by lints given left old new
Keeps path by lints given left (Err faults.Memory) old new = PutsSome path by lints given left old new
Keeps path by lints given left (Err faults.Read) old new = PutsSome path by lints given left old new
Keeps path by lints given left (Err (faults.Script line name)) old new = ⊥
