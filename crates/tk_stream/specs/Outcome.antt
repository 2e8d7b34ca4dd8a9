-- What reading answers, but for want of memory.
use Rattle.std.specs.Prelude.{◌≡◌, Option, Some, None, Result, Ok, Err}
use Rattle.tk_stream.specs.declared.error.LineError.{LineError}
use Rattle.tk_stream.specs.declared.error.LineError.TheVariants.{Memory, BadJson, BadShape}

-- a fault that was to be answered is answered, unless memory ran out
abbrev pub Fails : {A : Type 0} → LineError → Result A LineError → Type 0
Fails Memory wanted = Unit {0}
Fails BadJson wanted = wanted ≡ Err BadJson
Fails BadShape wanted = wanted ≡ Err BadShape

-- a call that was to answer this answers it, seen by view, unless memory ran out
abbrev pub Answers : {X A : Type 0} → (X → A) → Result X LineError → Result A LineError → Type 0
Answers view (Ok x) wanted = wanted ≡ Ok (view x)
Answers view (Err e) wanted = Fails e wanted

-- a value of the shape, or else a bad shape
abbrev pub shaped : {A : Type 0} → Option A → Result A LineError
shaped (Some x) = Ok x
shaped None = Err BadShape

-- the next step, where there was no fault
infixl 10 ◌then◌
abbrev pub ◌then◌ : {A B : Type 0} → Result A LineError → (A → Result B LineError) → Result B LineError
(Ok x) then f = f x
(Err e) then f = Err e
