-- How far a watch at keys has come. Inner: no public clause cites this.
use Rattle.std.specs.Prelude.{◌≡◌, ◌-◌, ℕ, List, Bool, true, false, Option, Some, None, is_some, if◌then◌else◌, Result, Ok, Err}
use Rattle.std.specs.Io.KnownBytes.{Appends}
use Rattle.tk_client.specs.Warnings.{LintsView}
use Rattle.tk_fault.specs.declared.fault.AppFault.{AppFault}
use Rattle.tk_fault.specs.declared.fault.AppFault.TheVariants as faults
use Rattle.tk_frame.specs.Keys.{first_asked, pressed}
use Rattle.tk_frame.specs.Shown.{asked_screen}
use Rattle.tk_frame.specs.declared.keys.Asked.{Asked}
use Rattle.tk_reading.specs.Fronts.{tables_in}
use Rattle.tk_reading.specs.Outcomes.{outcome_of}
use Rattle.tk_reading.specs.Taken.{HasTaken}
use Rattle.tk_stream.specs.Tables.{TablesView}
use Rattle.tk_stream.specs.Times.{TaskTimes}
use Rattle.tk_watch.specs.Course.{IsNew, Sees}
use Rattle.tk_watch.specs.Drawing.{SendsBefore}
use Rattle.tk_watch.specs.Keyed.{Coming, Loses, Standing, WatchesKeys, drawn, standing, text_of}
use Rattle.tk_watch.specs.Odd.{odd_after, odd_in, seen_in, times_in}
use Rattle.tk_watch.specs.declared.drawing.Screen.{Screen}
use Rattle.tk_watch.specs.declared.session.Held.{Held}
use Rattle.tk_watch.specs.declared.session.Session.{Session}

-- the screen that keys ask for of tables and histograms to which these lines came
abbrev pub screen_after : Screen → List TablesView → Asked → TablesView → List TaskTimes → List ℕ
screen_after screen shown asked tables times = asked_screen screen.canvas screen.query (odd_after screen.lints shown tables) asked 0 tables times

-- the screen of what is held, so far behind what came
abbrev pub screen_held : Screen → Held → Session → List ℕ
screen_held screen held s =
    asked_screen screen.canvas screen.query held.odd s.asked (s.course.client.start.tables.now - held.tables.now) held.tables held.times

-- what keys ask for once a key was pressed, while tables are shown to which these lines came
abbrev pub pressed_after : Screen → List TablesView → Asked → TablesView → ℕ → Asked
pressed_after screen shown asked tables k = pressed screen.canvas screen.query (odd_after screen.lints shown tables) tables asked k

-- tables and histograms to which these lines came, and what is odd about them
abbrev pub holding : LintsView → List TablesView → TablesView → List TaskTimes → Held
holding lints shown tables times = record { tables = tables; times = times; odd = odd_after lints shown tables }

-- what is held: in a pause what was held or stands at its beginning
abbrev pub held_then : Bool → Option Held → Held → Option Held
held_then paused old now = if paused then (if is_some old then old else Some now) else None

-- what is held stands for the bytes that are shown
abbrev pub Holds : LintsView → Bool → List ℕ → List ℕ → Option Held → Type 0
Holds lints paused shown all None = (paused ≡ false) × (shown ≡ all)
Holds lints paused shown all (Some h) = (paused ≡ true) × (h.tables ≡ tables_in (outcome_of shown)) × (h.odd ≡ odd_in lints shown) × (h.times ≡ times_in shown)

-- a session shows what stands: its tables and histograms are those of the bytes that came, whose lines it has seen
pub record Shows (lints : LintsView) (st : Standing) (s : Session) : Type 0 where
  pub tables : tables_in (outcome_of st.bytes) ≡ s.course.client.start.tables
  pub times : times_in st.bytes ≡ s.course.client.start.times
  pub seen : Sees lints (seen_in st.bytes) s.course.seen
  pub asked : s.asked ≡ st.asked
  pub holds : Holds lints st.asked.paused st.shown st.bytes s.held

-- and it has taken these bytes
pub record Stands (lints : LintsView) (st : Standing) (s : Session) : Type 0 where
  pub taken : HasTaken st.bytes s.lines s.course.client
  pub shows : Shows lints st s

-- at a fault of a stream the screen of what stands was written, or could not be; at another nothing was, and it is answered
abbrev pub SendsAt : Screen → Session → AppFault → AppFault → Option (List ℕ) → Option (List ℕ) → Type 0
SendsAt screen s (faults.Stream lines fault) answer old new =
    (st : Standing) → Shows screen.lints st s → SendsBefore (text_of screen st) (faults.Stream lines fault) answer old new
SendsAt screen s other answer old new = (answer ≡ other) × (new ≡ old)

-- what came is taken, and what was due of it is drawn
pub record Keying (screen : Screen) (given left : Option (List Coming)) (s : Session) (old new : Option (List ℕ)) : Type 0 where
  pub events : List Coming
  pub took : Loses given left events
  pub stands : Stands screen.lints (standing screen events) s
  pub on : s.asked.quits ≡ false
  pub wrote : Appends old new (drawn screen events)

-- nothing came yet
pub record IsFirst (screen : Screen) (s : Session) : Type 0 where
  pub course : IsNew screen.lints s.course
  pub lines : s.lines ≡ 0
  pub asked : s.asked ≡ first_asked screen.query
  pub held : s.held ≡ None

-- a watch goes on, has come to its end, or has stopped
abbrev pub Goes : Screen → Option (List Coming) → Option (List Coming) → Result Bool AppFault → Session → Option (List ℕ) → Option (List ℕ) → Type 0
Goes screen given left (Ok true) s old new = Keying screen given left s old new
Goes screen given left (Ok false) s old new = WatchesKeys screen given left (Ok tt) old new
Goes screen given left (Err fault) s old new = WatchesKeys screen given left (Err fault) old new
