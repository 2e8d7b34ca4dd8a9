-- A whole line and its end, where no part line stands before it.
use Rattle.std.proofs.Common.{◌≡◌, ℕ, ◌+◌, ◌≤◌, List, [], ◌∷◌, ◌++◌, length, true, false, nat_lt, Some, Ok, Err, refl, ap, ◌∙◌, arith, append-nil}
use Rattle.std.proofs.lemmas.Bool.{le-ltb}
use Rattle.tk_stream.specs.Spelling.{is_one_line}
use Rattle.tk_stream.specs.Tables.{TablesView}
use Rattle.tk_stream.specs.Times.{TaskTimes}
use Rattle.tk_client.specs.declared.fault.Fault.{Fault}
use Rattle.tk_client.specs.declared.fault.Fault.TheVariants.{Memory, BadJson, BadShape, Gap, UnknownId, Repeated, TooLong, Misfit, Failed}
use Rattle.tk_client.specs.Meaning.{Start, goes, stops, meaning, line_taken, after}
use Rattle.tk_client.specs.Feeding.{ClientView}
use Rattle.tk_client.specs.Applying.{Fails, EndedWholeBy}
use Rattle.tk_client.proofs.Ends.{holds}
use Rattle.tk_client.proofs.Pieces.{meaning-append}
use Rattle.tk_client.proofs.FeedLemmas.{goes-then}

-- a line end after a part line
end-goes : (max : ℕ) (s : Start) (tables : TablesView) (times : List TaskTimes) (n : ℕ) → length s.part ≤ max → line_taken s.tables s.times s.last s.part ≡ Ok (record { tables = tables; last = Some n; part = []; times = times })
    → meaning max s (10 ∷ []) ≡ goes (record { tables = tables; last = Some n; part = []; times = times }) 1
end-goes max s tables times n fits taken =
    let test : nat_lt max (length s.part) ≡ false = le-ltb max (length s.part) fits in
    let none : nat_lt max 0 ≡ false = le-ltb max 0 (omega arith) in
    rw (append-nil, test, taken, none) refl

end-stops : (max : ℕ) (s : Start) (fault : Fault) → length s.part ≤ max → line_taken s.tables s.times s.last s.part ≡ Err fault → meaning max s (10 ∷ []) ≡ stops s.tables 0 fault 1
end-stops max s fault fits taken =
    let test : nat_lt max (length s.part) ≡ false = le-ltb max (length s.part) fits in
    rw (append-nil, test, taken) refl

module _ (max : ℕ) (s : Start) (line : List ℕ) (empty : s.part ≡ []) (whole : is_one_line line ≡ true) (short : length line ≤ max) where
  mid : Start
  mid = record s { part = line }

  held : meaning max s line ≡ goes (record s { part = line }) 0
  held =
      let fits : length s.part + length line ≤ max = omega (arith, ap length empty) in
      holds max s line whole fits ∙ ap (λ (part : List ℕ). goes (record s { part = part ++ line }) 0) empty

  pub whole-goes : (tables : TablesView) (times : List TaskTimes) (n : ℕ) → line_taken s.tables s.times s.last line ≡ Ok (record { tables = tables; last = Some n; part = []; times = times })
      → meaning max s (line ++ 10 ∷ []) ≡ goes (record { tables = tables; last = Some n; part = []; times = times }) 1
  whole-goes tables times n taken =
      goes-then max s (record s { part = line }) (record { tables = tables; last = Some n; part = []; times = times }) line (10 ∷ []) 0 1 held (end-goes max (record s { part = line }) tables times n short taken)

  whole-stops : (fault : Fault) → line_taken s.tables s.times s.last line ≡ Err fault → meaning max s (line ++ 10 ∷ []) ≡ stops s.tables 0 fault (length line + 1)
  whole-stops fault taken =
      meaning-append max s (record s { part = line }) line (10 ∷ []) 0 held ∙ ap (after 0 (length line)) (end-stops max (record s { part = line }) fault short taken)

-- a whole line that has a fault
pub whole-fails : (fault : Fault) (old new : ClientView) (line : List ℕ) → (fault ≡ Memory → ⊥) → old.start.part ≡ [] → is_one_line line ≡ true → length line ≤ old.max_line
    → Fails fault (line_taken old.start.tables old.start.times old.start.last line) → new ≡ record old { has_failed = true } → EndedWholeBy fault old line new
whole-fails Memory old new line other empty whole short taken is = absurd (other refl)
whole-fails BadJson old new line other empty whole short taken is = (whole-stops old.max_line old.start line empty whole short BadJson taken, is)
whole-fails BadShape old new line other empty whole short taken is = (whole-stops old.max_line old.start line empty whole short BadShape taken, is)
whole-fails (Gap x y) old new line other empty whole short taken is = (whole-stops old.max_line old.start line empty whole short (Gap x y) taken, is)
whole-fails UnknownId old new line other empty whole short taken is = (whole-stops old.max_line old.start line empty whole short UnknownId taken, is)
whole-fails Repeated old new line other empty whole short taken is = (whole-stops old.max_line old.start line empty whole short Repeated taken, is)
whole-fails TooLong old new line other empty whole short taken is = (whole-stops old.max_line old.start line empty whole short TooLong taken, is)
whole-fails Misfit old new line other empty whole short taken is = (whole-stops old.max_line old.start line empty whole short Misfit taken, is)
whole-fails Failed old new line other empty whole short taken is = (whole-stops old.max_line old.start line empty whole short Failed taken, is)
