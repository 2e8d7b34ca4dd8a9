-- What was read of a stream, and what watched its lines: `saw` is what holds of what a client showed after each line, and of what watched it.
use Rattle.std.specs.Prelude.{◌≡◌, ℕ, List, ◌++◌, take, Option, Result, Ok, Err}
use Rattle.std.specs.Io.KnownBytes.{Consumes}
use Rattle.tk_client.specs.Changes.{Timed}
use Rattle.tk_client.specs.Feeding.{ClientView}
use Rattle.tk_client.specs.Meaning.{Start, goes, stops}
use Rattle.tk_client.specs.declared.fault.Fault.{Fault}
use Rattle.tk_fault.specs.declared.fault.AppFault.{AppFault}
use Rattle.tk_fault.specs.declared.fault.AppFault.TheVariants as faults
use Rattle.tk_reading.specs.Outcomes.{AreAll, HaveFault, outcome_of}
use Rattle.tk_reading.specs.Shown.{timed_of}
use Rattle.tk_reading.specs.Taken.{HasTaken}

-- bytes and a piece after them have a fault, after so many lines of them and of a part of the piece. These were watched, and the
-- client has stopped at their tables and histograms
pub record StopsAfter {O : Type 0} (saw : List Timed → O → Type 0) (bytes piece : List ℕ) (lines : ℕ) (fault : Fault) (now : ClientView) (observer : O) : Type 0 where
  pub part : List ℕ
  pub rest : List ℕ
  pub whole : piece ≡ part ++ rest
  pub start : Start
  pub come : outcome_of (bytes ++ part) ≡ goes start lines
  pub tables : now.start.tables ≡ start.tables
  pub times : now.start.times ≡ start.times
  pub used : ℕ
  pub stop : outcome_of (bytes ++ piece) ≡ stops start.tables lines fault used
  pub seen : saw (timed_of (bytes ++ part)) observer

-- a piece after bytes was taken and its lines were watched, or it has a fault, or there was no memory
abbrev pub TakesMore : {O : Type 0} → (List Timed → O → Type 0) → List ℕ → List ℕ → Result ℕ AppFault → ClientView → O → Type 0
TakesMore saw bytes piece (Ok lines) now observer = HasTaken (bytes ++ piece) lines now × saw (timed_of (bytes ++ piece)) observer
TakesMore saw bytes piece (Err (faults.Stream lines fault)) now observer = StopsAfter saw bytes piece lines fault now observer
TakesMore saw bytes piece (Err faults.Memory) now observer = Unit {0}
TakesMore saw bytes piece (Err other) now observer = ⊥

-- the first line of a piece after bytes was taken and watched, which are so many bytes, and so many lines were then taken; or a line has a fault,
-- or there was no memory
abbrev pub TakesLine : {O : Type 0} → (List Timed → O → Type 0) → List ℕ → List ℕ → ℕ → Result ℕ AppFault → ClientView → O → Type 0
TakesLine saw bytes piece lines (Ok used) now observer = TakesMore saw bytes (take used piece) (Ok lines) now observer
TakesLine saw bytes piece lines (Err fault) now observer = TakesMore saw bytes piece (Err fault) now observer

-- what was read of a reader was taken in so many lines, which were watched
pub record Seen {O : Type 0} (saw : List Timed → O → Type 0) (given left : Option (List ℕ)) (lines : ℕ) (now : ClientView) (observer : O) : Type 0 where
  pub bytes : List ℕ
  pub read : Consumes given left bytes
  pub taken : HasTaken bytes lines now
  pub seen : saw (timed_of bytes) observer

-- so were all bytes of a reader
pub record SawAll {O : Type 0} (saw : List Timed → O → Type 0) (given : Option (List ℕ)) (now : ClientView) (observer : O) : Type 0 where
  pub bytes : List ℕ
  pub lines : ℕ
  pub all : AreAll given bytes
  pub taken : HasTaken bytes lines now
  pub seen : saw (timed_of bytes) observer

-- what reading came to, by its answer: so were all bytes, or what was read has the fault, or it could not be read, or there was no memory
abbrev pub Reads : {O : Type 0} → (List Timed → O → Type 0) → Option (List ℕ) → Option (List ℕ) → Result (Unit {0}) AppFault → ClientView → O → Type 0
Reads saw given left (Ok done) now observer = SawAll saw given now observer
Reads saw given left (Err (faults.Stream lines fault)) now observer = HaveFault given left lines fault
Reads saw given left (Err faults.Memory) now observer = Unit {0}
Reads saw given left (Err faults.Read) now observer = Unit {0}
Reads saw given left (Err other) now observer = ⊥
