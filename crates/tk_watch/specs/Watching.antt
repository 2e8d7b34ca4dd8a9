-- How far a watch has come. Inner: no public clause cites this.
use Rattle.std.specs.Prelude.{◌≡◌, ℕ, ◌≤◌, ◌+◌, List, [], ◌++◌, flat_map, length, Bool, Option, Some, None, Result, Ok, Err}
use Rattle.std.specs.List.{list_any}
use Rattle.std.specs.Io.KnownBytes.{Appends, Consumes}
use Rattle.tk_client.specs.Warnings.{LintsView}
use Rattle.tk_client.specs.Meaning.{stops}
use Rattle.tk_fault.specs.declared.fault.AppFault.{AppFault}
use Rattle.tk_fault.specs.declared.fault.AppFault.TheVariants as faults
use Rattle.tk_reading.specs.Fronts.{Rise, last_lines}
use Rattle.tk_reading.specs.Outcomes.{outcome_of}
use Rattle.tk_reading.specs.Pacing.{Says}
use Rattle.tk_reading.specs.Taken.{HasTaken}
use Rattle.tk_watch.specs.Course.{Sees}
use Rattle.tk_watch.specs.Odd.{seen_in, times_in}
use Rattle.tk_watch.specs.Turns.{IsPaced}
use Rattle.tk_watch.specs.Watches.{Watches, WritesAll, screen_of}
use Rattle.tk_watch.specs.declared.drawing.Screen.{Screen}
use Rattle.tk_watch.specs.declared.seen.Course.{Course}
use Rattle.tk_watch.specs.declared.watching.Progress.{Progress}

-- what was read is taken, in so many lines, and the screens of rising fronts of it are written, the last of so many lines, each in its time. The pace
-- was asked after all of it but this part
pub record Watching (screen : Screen) (given left : Option (List ℕ)) (lines : ℕ) (drawn : Option ℕ) (part : List ℕ) (now : Course) (old new : Option (List ℕ)) (said told : Option (List Bool)) : Type 0 where
  pub bytes : List ℕ
  pub read : Consumes given left bytes
  pub taken : HasTaken bytes lines now.client
  pub seen : Sees screen.lints (seen_in bytes) now.seen
  pub fronts : List (List ℕ)
  pub rise : Rise fronts bytes
  pub last : last_lines fronts ≡ drawn
  pub wrote : Appends old new (flat_map (screen_of screen) fronts)
  pub before : List ℕ
  pub whole : bytes ≡ before ++ part
  pub short : length part ≤ 65536
  pub paced : IsPaced said told (record { bytes = before; fronts = fronts })

-- a watch goes on with so many lines, and this piece more, or has stopped
abbrev pub Goes : Screen → Option (List ℕ) → Option (List ℕ) → Result ℕ AppFault → Option ℕ → List ℕ → Course → Option (List ℕ) → Option (List ℕ) → Option (List Bool) → Option (List Bool) → Type 0
Goes screen given left (Ok lines) drawn piece now old new said told = Watching screen given left lines drawn piece now old new said told
Goes screen given left (Err fault) drawn piece now old new said told = Watches screen given left (Err fault) old new said told

-- a watch of so many lines goes on after a screen was drawn or not, or has stopped
abbrev pub Drew : Screen → Option (List ℕ) → Option (List ℕ) → ℕ → Result (Option ℕ) AppFault → Course → Option (List ℕ) → Option (List ℕ) → Option (List Bool) → Option (List Bool) → Type 0
Drew screen given left lines (Ok drawn) now old new said told = Watching screen given left lines drawn [] now old new said told
Drew screen given left lines (Err fault) now old new said told = Watches screen given left (Err fault) old new said told

-- a watch goes on from here, has come to the end, or has stopped
abbrev pub Steps : Screen → Option (List ℕ) → Option (List ℕ) → Result (Option Progress) AppFault → Course → Option (List ℕ) → Option (List ℕ) → Option (List Bool) → Option (List Bool) → Type 0
Steps screen given left (Ok (Some p)) now old new said told = Watching screen given left p.lines p.drawn [] now old new said told
Steps screen given left (Ok None) now old new said told = WritesAll screen given old new said told
Steps screen given left (Err fault) now old new said told = Watches screen given left (Err fault) old new said told

-- the pace was asked, and said in all whether a screen may be drawn
abbrev pub Asks : Option (List Bool) → Option (List Bool) → Bool → Type 0
Asks said told may = (more : List Bool) × Says said told more × (list_any (λ b. b) more ≡ may) × (1 ≤ length more)

-- no more lines came than a piece has bytes
abbrev pub IsFew : ℕ → Result (Option Progress) AppFault → Type 0
IsFew lines (Ok (Some p)) = p.lines ≤ lines + 65536
IsFew lines (Ok None) = Unit {0}
IsFew lines (Err fault) = Unit {0}

-- the last screen has all lines
abbrev pub Covers : Option ℕ → ℕ → Type 0
Covers None lines = ⊥
Covers (Some drawn) lines = lines ≤ drawn

-- bytes were taken, or have a fault before which these tables and histograms stood, and the lines before it were seen; or there was no memory
abbrev pub TakesTo : LintsView → List ℕ → Result ℕ AppFault → Course → Type 0
TakesTo lints bytes (Ok lines) now = HasTaken bytes lines now.client × Sees lints (seen_in bytes) now.seen
TakesTo lints bytes (Err (faults.Stream lines fault)) now =
    (used : ℕ) × (outcome_of bytes ≡ stops now.client.start.tables lines fault used) × Sees lints (seen_in bytes) now.seen × (times_in bytes ≡ now.client.start.times)
TakesTo lints bytes (Err faults.Memory) now = Unit {0}
TakesTo lints bytes (Err other) now = ⊥
