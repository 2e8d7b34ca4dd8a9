-- What a client shows, and what feeding it did.
use Rattle.std.specs.Prelude.{◌≡◌, ℕ, ◌≤◌, ◌<◌, List, [], ◌∷◌, take, length, Bool, true, false, Option, Some, None, IfSome, IfNone, Result, Ok, Err}
use Rattle.tk_client.specs.declared.fault.Fault.{Fault}
use Rattle.tk_client.specs.declared.fault.Fault.TheVariants.{Memory}
use Rattle.tk_client.specs.declared.fault.FeedError.{FeedError}
use Rattle.tk_client.specs.declared.client.FedLine.{FedLine}
use Rattle.tk_client.specs.Changes.{IsChange, timed_in}
use Rattle.tk_client.specs.Meaning.{Start, Outcome, cut, goes, stops, meaning}

-- where the client begins to read, whether it has failed since it was new or restarted, and the bytes that a line may have.
-- After a fault the tables of the start alone count
pub record ClientView : Type 0 where
  pub start : Start
  pub has_failed : Bool
  pub max_line : ℕ

-- why feeding stopped: memory ran out, and the client has come as far as these bytes lead; or these bytes have the fault,
-- and the client has failed at the tables that were there before it
abbrev pub StoppedBy : Fault → Outcome → FeedError → ClientView → Type 0
StoppedBy Memory o e new = (o ≡ goes new.start e.lines) × (new.has_failed ≡ false)
StoppedBy fault o e new = (o ≡ stops new.start.tables e.lines fault e.used) × (new.has_failed ≡ true)

-- the first so many of the bytes were taken, and came to this
pub record Stopped (old : ClientView) (bytes : List ℕ) (e : FeedError) (new : ClientView) : Type 0 where
  pub within : e.used ≤ length bytes
  pub few : e.lines ≤ e.used
  pub by : StoppedBy e.fault (meaning old.max_line old.start (take e.used bytes)) e new

-- all of the bytes were taken, and this many lines applied
pub record Took (old : ClientView) (bytes : List ℕ) (lines : ℕ) (new : ClientView) : Type 0 where
  pub came : meaning old.max_line old.start bytes ≡ goes new.start lines
  pub sound : new.has_failed ≡ false

-- how many lines ended, where something is said of a line that did
abbrev pub lines_of : {A : Type 0} → Option A → ℕ
lines_of None = 0
lines_of (Some said) = 1

-- bytes are one line with its end, or end none
abbrev pub AreLine : {A : Type 0} → Option A → List ℕ → Type 0
AreLine None bytes = (cut bytes).0 ≡ []
AreLine (Some said) bytes = (line : List ℕ) × (cut bytes ≡ (line ∷ [], []))

-- of bytes those through the first line end were taken, and something is said of the line; or all, where none ends
pub record TookLine {A : Type 0} (old : ClientView) (bytes : List ℕ) (said : Option A) (used : ℕ) (new : ClientView) : Type 0 where
  pub some : 0 < length bytes → 0 < used
  pub within : used ≤ length bytes
  pub all : IfNone said (used ≡ length bytes)
  pub line : AreLine said (take used bytes)
  pub took : Took old (take used bytes) (lines_of said) new

-- feeding stopped in the first line of bytes, and no line was applied
pub record StoppedInLine (old : ClientView) (bytes : List ℕ) (e : FeedError) (new : ClientView) : Type 0 where
  pub stopped : Stopped old bytes e new
  pub none : e.lines ≡ 0
  pub kept : timed_in new.start ≡ timed_in old.start

-- what feeding the first line of bytes did to a client that hadn't failed, and what this changed
abbrev pub FedOne : ClientView → List ℕ → Result FedLine FeedError → ClientView → Type 0
FedOne old bytes (Ok fed) new = TookLine old bytes fed.change fed.used new × IfSome fed.change (IsChange (timed_in old.start) (timed_in new.start))
FedOne old bytes (Err e) new = StoppedInLine old bytes e new

-- what feeding bytes did to a client that hadn't failed
abbrev pub Fed : ClientView → List ℕ → Result ℕ FeedError → ClientView → Type 0
Fed old bytes (Ok lines) new = Took old bytes lines new
Fed old bytes (Err e) new = Stopped old bytes e new
