-- A stream that is taken line by line stops at a fault where its last good line led.
use Rattle.std.proofs.Common.{◌≡◌, ℕ, ◌+◌, ◌≤◌, List, [], ◌∷◌, ◌++◌, length, take, drop, Option, Some, None, Ok, Err, refl, ap, ap₂, sym, ◌∙◌, append_assoc, append-nil, take-append-drop, arith, subst}
use Rattle.tk_client.specs.declared.fault.Fault.{Fault}
use Rattle.tk_client.specs.declared.fault.Fault.TheVariants as client
use Rattle.tk_client.specs.declared.fault.FeedError.{FeedError}
use Rattle.tk_client.specs.Changes.{Timed, timed_in}
use Rattle.tk_client.specs.Feeding.{ClientView, StoppedInLine, StoppedBy, TookLine}
use Rattle.tk_client.specs.Meaning.{after, cut, empty_start, goes, greatest_line, meaning, stops}
use Rattle.tk_client.proofs.Pieces.{meaning-append, stops-append}
use Rattle.tk_fault.specs.declared.fault.AppFault.{AppFault}
use Rattle.tk_fault.specs.declared.fault.AppFault.TheVariants as faults
use Rattle.tk_stream.specs.Tables.{TablesView}
use Rattle.tk_reading.specs.Outcomes.{outcome_of}
use Rattle.tk_reading.specs.Reads.{StopsAfter, TakesMore}
use Rattle.tk_reading.specs.Shown.{timed_of}
use Rattle.tk_reading.specs.Taken.{HasTaken, stop_of}
use Rattle.tk_reading.proofs.PieceLemmas.{whole_piece}
use Rattle.tk_reading.proofs.ReadLemmas.{takes_more}
use Rattle.tk_reading.proofs.ShownLemmas.{none_more, one_more}

-- ---- a line that was taken

module _ (O A : Type 0) (saw : List Timed → O → Type 0) (front piece : List ℕ) (lines used : ℕ) (old new : ClientView) (h : HasTaken front lines old) (limit : new.max_line ≡ old.max_line) where
  -- none ended
  pub took_none : (said : Option A) → said ≡ None → TookLine old piece said used new → (observer : O) → saw (timed_of front) observer → TakesMore saw front (take used piece) (Ok lines) new observer
  took_none None is t observer seen = (
    subst (λ n. HasTaken (front ++ take used piece) n new) (omega arith) (takes_more front (take used piece) lines 0 old new h t.took limit),
    subst (λ xs. saw xs observer) (sym (none_more front (take used piece) lines 0 old new h t.took refl)) seen,
  )
  took_none (Some x) is t observer seen = absurd (cc)

  -- one ended
  pub took_some : (said : Option A) (x : A) → said ≡ Some x → TookLine old piece said used new → (observer : O) → saw (timed_of front ++ timed_in new.start ∷ []) observer
      → TakesMore saw front (take used piece) (Ok (lines + 1)) new observer
  took_some None x is t observer seen = absurd (cc)
  took_some (Some y) x is t observer seen =
      let few : length (cut (take used piece)).0 ≤ 1 = omega (arith, ap (λ (c : List (List ℕ) × List ℕ). length c.0) t.line.1) in (
        takes_more front (take used piece) lines 1 old new h t.took limit,
        subst (λ xs. saw xs observer) (sym (one_more front (take used piece) lines 1 old new h t.took few (omega arith))) seen,
      )

-- ---- a line with a fault

module _ (O : Type 0) (saw : List Timed → O → Type 0) (front piece : List ℕ) (lines : ℕ) (old new : ClientView) (e : FeedError) (observer : O)
    (h : HasTaken front lines old) (seen : saw (timed_of front) observer) (s : StoppedInLine old piece e new) where
  piece_stops : (fault : Fault) → meaning old.max_line old.start (take e.used piece) ≡ stops new.start.tables e.lines fault e.used
      → meaning greatest_line old.start piece ≡ stops old.start.tables 0 fault e.used
  piece_stops fault o =
      ap (meaning greatest_line old.start) (sym (take-append-drop e.used piece))
      ∙ stops-append greatest_line old.start (take e.used piece) (drop e.used piece) new.start.tables e.lines e.used fault
      (ap (λ k. meaning k old.start (take e.used piece)) (sym h.limit) ∙ o)
      ∙ ap₂ (λ (t : Timed) (n : ℕ). stops t.0 n fault e.used) s.kept s.none

  there : (fault : Fault) → meaning old.max_line old.start (take e.used piece) ≡ stops new.start.tables e.lines fault e.used
      → StopsAfter saw front piece lines fault new observer
  there fault o =
      let same : lines + 0 ≡ lines = omega arith in
      record {
        part = [];
        rest = piece;
        whole = refl;
        start = old.start;
        come = ap outcome_of (append-nil front) ∙ h.took.came;
        tables = ap (λ (t : Timed). t.0) s.kept;
        times = ap (λ (t : Timed). t.1) s.kept;
        used = length front + e.used;
        stop = meaning-append greatest_line empty_start old.start front piece lines h.took.came
            ∙ ap (after lines (length front)) (piece_stops fault o)
            ∙ ap (λ n. stops old.start.tables n fault (length front + e.used)) same;
        seen = subst (λ bytes. saw (timed_of bytes) observer) (sym (append-nil front)) seen;
      }

  by_fault : (fault : Fault) → StoppedBy fault (meaning old.max_line old.start (take e.used piece)) e new → TakesMore saw front piece (Err (stop_of lines fault)) new observer
  by_fault client.Memory b = tt
  by_fault client.BadJson b = there client.BadJson b.0
  by_fault client.BadShape b = there client.BadShape b.0
  by_fault (client.Gap expected found) b = there (client.Gap expected found) b.0
  by_fault client.UnknownId b = there client.UnknownId b.0
  by_fault client.Repeated b = there client.Repeated b.0
  by_fault client.TooLong b = there client.TooLong b.0
  by_fault client.Misfit b = there client.Misfit b.0
  by_fault client.Failed b = there client.Failed b.0

  -- a line has a fault
  pub line_stops : (answer : AppFault) → answer ≡ stop_of lines e.fault → TakesMore saw front piece (Err answer) new observer
  line_stops answer is = subst (λ a. TakesMore saw front piece (Err a) new observer) (sym is) (by_fault e.fault s.stopped.by)

module _ (O : Type 0) (saw : List Timed → O → Type 0) (front piece : List ℕ) (at : ℕ) (now : ClientView) (observer : O) where
  abbrev head : List ℕ
  head = take at piece

  split : (part rest : List ℕ) → drop at piece ≡ part ++ rest → piece ≡ (head ++ part) ++ rest
  split part rest is = sym (take-append-drop at piece) ∙ ap (λ xs. head ++ xs) is ∙ sym (append_assoc head part rest)

  -- a line within a piece has a fault
  pub piece_stops_at : (answer : AppFault) → TakesMore saw (front ++ head) (drop at piece) (Err answer) now observer → TakesMore saw front piece (Err answer) now observer
  piece_stops_at faults.Memory h = tt
  piece_stops_at faults.Read h = absurd h
  piece_stops_at faults.Write h = absurd h
  piece_stops_at (faults.Script line name) h = absurd h
  piece_stops_at (faults.Stream lines fault) h = record {
    part = head ++ h.part;
    rest = h.rest;
    whole = split h.part h.rest h.whole;
    start = h.start;
    come = ap outcome_of (sym (append_assoc front head h.part)) ∙ h.come;
    tables = h.tables;
    times = h.times;
    used = h.used;
    stop = ap outcome_of (sym (whole_piece front piece at)) ∙ h.stop;
    seen = subst (λ bytes. saw (timed_of bytes) observer) (append_assoc front head h.part) h.seen;
  }
