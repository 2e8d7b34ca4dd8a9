-- Streams that a client takes. What a stream is stands in `tk_stream`, beside its lines.
use Rattle.std.specs.Prelude.{ℕ, ◌≤◌, List, length}
use Rattle.std.specs.List.{AllByRecursion}
use Rattle.tk_stream.specs.Lines.{LineView}
use Rattle.tk_stream.specs.Spelling.{line_text}
use Rattle.tk_client.specs.Meaning.{Outcome, goes, stops}

-- no line has more bytes than a client takes
abbrev pub AreShort : ℕ → List LineView → Type 0
AreShort max lines = AllByRecursion (λ l. length (line_text l) ≤ max) lines

-- bytes without a fault
abbrev pub HasNoFault : Outcome → Type 0
HasNoFault (goes s n) = Unit {0}
HasNoFault (stops tables n fault used) = ⊥
