-- What is written of a stream that is watched by a person at keys.
use Rattle.std.specs.Prelude.{◌≡◌, ◌⊎◌, ℕ, ◌≤◌, ◌-◌, List, [], ◌∷◌, ◌++◌, take, Bool, true, false, Option, Some, None, Result, Ok, Err, if◌then◌else◌}
use Rattle.std.specs.Io.KnownBytes.{Appends}
use Rattle.std.specs.List.{fold}
use Rattle.tk_client.specs.declared.fault.Fault.{Fault}
use Rattle.tk_client.specs.Meaning.{stops}
use Rattle.tk_fault.specs.declared.fault.AppFault.{AppFault}
use Rattle.tk_fault.specs.declared.fault.AppFault.TheVariants as faults
use Rattle.tk_frame.specs.declared.keys.Asked.{Asked}
use Rattle.tk_frame.specs.Keys.{first_asked, pressed}
use Rattle.tk_frame.specs.Shown.{asked_screen}
use Rattle.tk_reading.specs.Fronts.{tables_in}
use Rattle.tk_reading.specs.Outcomes.{outcome_of}
use Rattle.tk_stream.specs.Sent.{IsCut}
use Rattle.tk_stream.specs.Tables.{TablesView}
use Rattle.tk_watch.specs.Odd.{odd_in, times_in}
use Rattle.tk_watch.specs.declared.drawing.Screen.{Screen}
use Rattle.tk_watch.specs.declared.source.Event.{Event}
use Rattle.tk_watch.specs.declared.source.Event.TheVariants.{Piece, Key, Due, Broken}

-- what comes: a piece of the stream's bytes; a key; a moment at which a screen is drawn; that the stream can't be read
pub data Coming : Type 0 where
  piece : List ℕ → Coming
  key : ℕ → Coming
  due : Coming
  broken : Coming

-- it is no key
abbrev pub is_no_key : Coming → Bool
is_no_key (key k) = false
is_no_key other = true

-- what an event says, with the bytes that were put for it
abbrev pub coming : Event → List ℕ → Coming
coming (Piece n) room = piece (take n room)
coming (Key k) room = key k
coming Due room = due
coming Broken room = broken

-- a piece has no more bytes than there is room for
abbrev pub IsWithin : Option Event → ℕ → Type 0
IsWithin (Some (Piece n)) room = n ≤ room
IsWithin other room = Unit {0}

-- known items begin with these, and lose them
abbrev pub Loses : {X : Type 0} → Option (List X) → Option (List X) → List X → Type 0
Loses None new xs = Unit {0}
Loses (Some all) None xs = ⊥
Loses (Some all) (Some rest) xs = all ≡ xs ++ rest

-- no known item is left
abbrev pub IsOver : {X : Type 0} → Option (List X) → Type 0
IsOver None = Unit {0}
IsOver (Some all) = all ≡ []

-- what comes next was given, or nothing more comes
abbrev pub Gives : Option (List Coming) → Option (List Coming) → Option Event → List ℕ → Type 0
Gives old new (Some event) room = Loses old new (coming event room ∷ [])
Gives old new None room = Loses old new [] × IsOver new

-- ---- what stands

-- what keys asked for, the bytes that came, and the front of them that is shown
pub record Standing : Type 0 where
  pub asked : Asked
  pub bytes : List ℕ
  pub shown : List ℕ

-- before anything came
abbrev pub at_first : Screen → Standing
at_first screen = record { asked = first_asked screen.query; bytes = []; shown = [] }

-- all bytes are shown, or where screens stay as they are those that were
abbrev pub shown_of : Bool → List ℕ → List ℕ → List ℕ
shown_of paused before all = if paused then before else all

-- what keys ask for once a key was pressed, of the tables and findings that are shown
abbrev pub asked_after : Screen → Standing → ℕ → Asked
asked_after screen s k = pressed screen.canvas screen.query (odd_in screen.lints s.shown) (tables_in (outcome_of s.shown)) s.asked k

-- what stands once this came
abbrev pub after : Screen → Standing → Coming → Standing
after screen s (piece p) = record { asked = s.asked; bytes = s.bytes ++ p; shown = shown_of s.asked.paused s.shown (s.bytes ++ p) }
after screen s (key k) =
    record { asked = asked_after screen s k; bytes = s.bytes; shown = shown_of (asked_after screen s k).paused s.shown s.bytes }
after screen s due = s
after screen s broken = s

-- what stands once all this came
abbrev pub standing : Screen → List Coming → Standing
standing screen events = fold (after screen) (at_first screen) events

-- keys have asked to quit
abbrev pub quits : Screen → List Coming → Bool
quits screen events = (standing screen events).asked.quits

-- ---- what is drawn

-- how far what is shown lies behind what came, by the moments of their last lines
abbrev pub behind_in : Standing → ℕ
behind_in s = (tables_in (outcome_of s.bytes)).now - (tables_in (outcome_of s.shown)).now

-- the screen of what stands, so far behind: what keys asked for of the tables and histograms that the shown bytes come to, and of what is odd about all of
-- these bytes
abbrev pub text_at : ℕ → Screen → Standing → List ℕ
text_at behind screen s = asked_screen screen.canvas screen.query (odd_in screen.lints s.shown) s.asked behind (tables_in (outcome_of s.shown)) (times_in s.shown)

abbrev pub text_of : Screen → Standing → List ℕ
text_of screen s = text_at (behind_in s) screen s

-- what is written as this comes: where a screen is due, that of what stands
abbrev pub drawn_at : Screen → Standing → Coming → List ℕ
drawn_at screen s due = text_of screen s
drawn_at screen s other = []

-- what is written as all this comes
abbrev pub drawn_from : Screen → Standing → List Coming → List ℕ
drawn_from screen s [] = []
drawn_from screen s (e ∷ es) = drawn_at screen s e ++ drawn_from screen (after screen s e) es

abbrev pub drawn : Screen → List Coming → List ℕ
drawn screen events = drawn_from screen (at_first screen) events

-- ---- outcomes

-- the last of what came is the first that asks to quit
pub record QuitsLast (screen : Screen) (events : List Coming) : Type 0 where
  pub before : List Coming
  pub last : Coming
  pub whole : events ≡ before ++ last ∷ []
  pub on : quits screen before ≡ false
  pub off : quits screen events ≡ true

-- keys asked to quit, or nothing more came, and all that was due is drawn
pub record DrawsAll (screen : Screen) (given left : Option (List Coming)) (old new : Option (List ℕ)) : Type 0 where
  pub events : List Coming
  pub took : Loses given left events
  pub ends : QuitsLast screen events ⊎ (IsOver left × (quits screen events ≡ false))
  pub wrote : Appends old new (drawn screen events)

-- what was due is drawn of what came, up to some more
pub record DrawsSome (screen : Screen) (given left : Option (List Coming)) (old new : Option (List ℕ)) : Type 0 where
  pub events : List Coming
  pub more : List Coming
  pub took : Loses given left (events ++ more)
  pub wrote : Appends old new (drawn screen events)

-- what was due is drawn of what came before the last, and then a proper front of the screen of what stands
pub record DrawsFront (screen : Screen) (given left : Option (List Coming)) (old new : Option (List ℕ)) : Type 0 where
  pub events : List Coming
  pub last : Coming
  pub took : Loses given left (events ++ last ∷ [])
  pub front : List ℕ
  pub cut : IsCut (text_of screen (standing screen (events ++ last ∷ []))) front
  pub wrote : Appends old new (drawn screen events ++ front)

-- the bytes that came have this fault, after so many lines that are applied. What was due is drawn, and then the screen of what stands
pub record DrawsUpTo (screen : Screen) (given left : Option (List Coming)) (lines : ℕ) (fault : Fault) (old new : Option (List ℕ)) : Type 0 where
  pub events : List Coming
  pub took : Loses given left events
  pub tables : TablesView
  pub used : ℕ
  pub stop : outcome_of (standing screen events).bytes ≡ stops tables lines fault used
  pub wrote : Appends old new (drawn screen events ++ text_of screen (standing screen events))

-- what watching at keys came to, by its answer: of what was to come before and is left, and of the writer's bytes before and after
abbrev pub WatchesKeys : Screen → Option (List Coming) → Option (List Coming) → Result (Unit {0}) AppFault → Option (List ℕ) → Option (List ℕ) → Type 0
WatchesKeys screen given left (Ok done) old new = DrawsAll screen given left old new
WatchesKeys screen given left (Err faults.Write) old new = DrawsFront screen given left old new
WatchesKeys screen given left (Err (faults.Stream lines fault)) old new = DrawsUpTo screen given left lines fault old new
WatchesKeys screen given left (Err faults.Memory) old new = DrawsSome screen given left old new
WatchesKeys screen given left (Err faults.Read) old new = DrawsSome screen given left old new
WatchesKeys screen given left (Err (faults.Script line name)) old new = ⊥
