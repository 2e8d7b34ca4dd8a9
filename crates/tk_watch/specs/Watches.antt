-- What is written of a stream that is watched.
use Rattle.std.specs.Prelude.{◌≡◌, ℕ, List, [], ◌∷◌, ◌++◌, flat_map, Bool, Option, Result, Ok, Err}
use Rattle.std.specs.Io.KnownBytes.{Appends, Consumes}
use Rattle.tk_client.specs.declared.fault.Fault.{Fault}
use Rattle.tk_client.specs.Meaning.{Start, goes, stops}
use Rattle.tk_fault.specs.declared.fault.AppFault.{AppFault}
use Rattle.tk_fault.specs.declared.fault.AppFault.TheVariants as faults
use Rattle.tk_frame.specs.Frames.{frame_text}
use Rattle.tk_reading.specs.Fronts.{Rise, tables_in}
use Rattle.tk_reading.specs.Outcomes.{AreAll, outcome_of}
use Rattle.tk_stream.specs.Sent.{IsCut}
use Rattle.tk_stream.specs.Tables.{TablesView}
use Rattle.tk_watch.specs.Odd.{odd_in}
use Rattle.tk_watch.specs.Turns.{IsPaced}
use Rattle.tk_watch.specs.declared.drawing.Screen.{Screen}

-- the screen of the tables that a stream's bytes come to, and of what is odd about all of them
abbrev pub screen_of : Screen → List ℕ → List ℕ
screen_of screen bytes = frame_text screen.canvas screen.query (odd_in screen.lints bytes) (tables_in (outcome_of bytes))

-- a text is the screens of what was drawn at turns, of which these bytes are all that was read, and at which the pace was asked: so each screen but
-- the last was drawn as the pace said that it may be, of what had come by then, or as the reader had no more
pub record IsDrawnInTime (screen : Screen) (bytes text : List ℕ) (said told : Option (List Bool)) : Type 0 where
  pub drawn : List (List ℕ)
  pub paced : IsPaced said told (record { bytes = bytes; fronts = drawn })
  pub screens : text ≡ flat_map (screen_of screen) drawn

-- all bytes were read, and have no fault. Written was, for rising fronts of them of which they are the last, screen after screen of
-- what these come to, each in its time
pub record WritesAll (screen : Screen) (given old new : Option (List ℕ)) (said told : Option (List Bool)) : Type 0 where
  pub bytes : List ℕ
  pub all : AreAll given bytes
  pub start : Start
  pub lines : ℕ
  pub come : outcome_of bytes ≡ goes start lines
  pub fronts : List (List ℕ)
  pub rise : Rise (fronts ++ bytes ∷ []) bytes
  pub wrote : Appends old new (flat_map (screen_of screen) (fronts ++ bytes ∷ []))
  pub when : IsDrawnInTime screen bytes (flat_map (screen_of screen) (fronts ++ bytes ∷ [])) said told

-- bytes were read, and for rising fronts of them screens were written
pub record WritesSome (screen : Screen) (given left old new : Option (List ℕ)) : Type 0 where
  pub bytes : List ℕ
  pub read : Consumes given left bytes
  pub fronts : List (List ℕ)
  pub rise : Rise fronts bytes
  pub wrote : Appends old new (flat_map (screen_of screen) fronts)

-- so it was, and then a proper front of the screen of all that was read was written
pub record WritesFront (screen : Screen) (given left old new : Option (List ℕ)) : Type 0 where
  pub bytes : List ℕ
  pub read : Consumes given left bytes
  pub fronts : List (List ℕ)
  pub rise : Rise fronts bytes
  pub front : List ℕ
  pub cut : IsCut (screen_of screen bytes) front
  pub wrote : Appends old new (flat_map (screen_of screen) fronts ++ front)

-- so it was, what was read has this fault, after so many lines that are applied, and then the screen of what stood before it was
-- written
pub record WritesUpTo (screen : Screen) (given left : Option (List ℕ)) (lines : ℕ) (fault : Fault) (old new : Option (List ℕ)) : Type 0 where
  pub bytes : List ℕ
  pub read : Consumes given left bytes
  pub tables : TablesView
  pub used : ℕ
  pub stop : outcome_of bytes ≡ stops tables lines fault used
  pub fronts : List (List ℕ)
  pub rise : Rise fronts bytes
  pub wrote : Appends old new (flat_map (screen_of screen) fronts ++ screen_of screen bytes)

-- what watching a stream came to, by its answer: of the reader's bytes that were given and those that are left, of the writer's before and
-- after, and of what the pace had said before and has said after
abbrev pub Watches : Screen → Option (List ℕ) → Option (List ℕ) → Result (Unit {0}) AppFault → Option (List ℕ) → Option (List ℕ) → Option (List Bool) → Option (List Bool) → Type 0
Watches screen given left (Ok done) old new said told = WritesAll screen given old new said told
Watches screen given left (Err faults.Write) old new said told = WritesFront screen given left old new
Watches screen given left (Err (faults.Stream lines fault)) old new said told = WritesUpTo screen given left lines fault old new
Watches screen given left (Err faults.Memory) old new said told = WritesSome screen given left old new
Watches screen given left (Err faults.Read) old new said told = WritesSome screen given left old new
Watches screen given left (Err (faults.Script line name)) old new said told = ⊥
