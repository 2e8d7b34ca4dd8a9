-- What the view of bytes writes that come to tables, also where a line that was cut off stands after whole ones.
use Rattle.std.proofs.Common.{◌≡◌, ℕ, ◌+◌, ◌≤◌, List, [], ◌∷◌, ◌++◌, length, take, drop, true, Option, Some, Result, refl, ap, sym, subst, ◌∙◌, arith, length-append}
use Rattle.std.proofs.lemmas.List.{take-append-drop, take-append-le}
use Rattle.tk_stream.specs.Lines.{LineView}
use Rattle.tk_stream.specs.Sent.{IsCut}
use Rattle.tk_stream.specs.Spelling.{line_text, sent_text, is_one_line}
use Rattle.tk_stream.specs.Streams.{Sending, line_sent, tables_sent}
use Rattle.tk_stream.specs.Tables.{empty_tables}
use Rattle.tk_stream.proofs.NoEnds.{text_is_one_line}
use Rattle.tk_client.specs.Meaning.{Start, Outcome, empty_start, goes, stops, after, greatest_line}
use Rattle.tk_client.specs.Streams.{HasNoFault}
use Rattle.tk_client.specs.Warnings.{LintsView}
use Rattle.tk_client.proofs.Ends.{holds, no_end-take}
use Rattle.tk_client.proofs.Pieces.{meaning-append, stops-append}
use Rattle.tk_fault.specs.declared.fault.AppFault.{AppFault}
use Rattle.tk_live.specs.Script.{FrontOf, Fronts}
use Rattle.tk_script.specs.Commands.{Said, Line, says, publish}
use Rattle.tk_script.specs.declared.stop.Stop.{Stop}
use Rattle.tk_script.specs.declared.stop.Stop.TheVariants.{WriteFault}
use Rattle.tk_report.specs.declared.view.View.{View}
use Rattle.tk_report.specs.Uninterrupted.{ShowsTables}
use Rattle.tk_reading.specs.Outcomes.{outcome_of}
use Rattle.tk_report.specs.Views.{Views}
use Rattle.tk_report.proofs.OutcomeLemmas.{take_front, shows_tables}

-- ---- a line that was cut off

-- a proper front of a line's bytes has no line end
cut_is_one_line : (l : LineView) (front : List ℕ) → IsCut (sent_text l) front → is_one_line front ≡ true
cut_is_one_line l front cut =
    let long : length front + length cut.rest ≡ length (line_text l) + 1 = omega (arith, ap length cut.whole, length-append front cut.rest, length-append (line_text l) (10 ∷ [])) in
    let within : length front ≤ length (line_text l) = omega (arith, long, cut.unsent) in
    let same : take (length front) (line_text l) ≡ front = sym (take-append-le (length front) (line_text l) (10 ∷ []) within) ∙ ap (take (length front)) cut.whole ∙ take_front front cut.rest in
    subst (λ (bs : List ℕ). is_one_line bs ≡ true) same (no_end-take (length front) (line_text l) (text_is_one_line l))

-- it comes to nothing after whole lines
pub cut_goes : (bytes front : List ℕ) (s : Start) (n : ℕ) → outcome_of bytes ≡ goes s n → s.part ≡ [] → is_one_line front ≡ true → length front ≤ greatest_line
    → outcome_of (bytes ++ front) ≡ goes (record s { part = s.part ++ front }) (n + 0)
cut_goes bytes front s n comes none whole short =
    meaning-append greatest_line empty_start s bytes front n comes ∙ ap (after n (length bytes)) (holds greatest_line s front whole (omega (arith, ap length none, short)))

-- ---- bytes without a fault

fronts : (bytes : List ℕ) (s : Start) (n k : ℕ) → outcome_of bytes ≡ goes s n → HasNoFault (outcome_of (take k bytes))
fronts bytes s n k comes = by (outcome_of (take k bytes)) refl
  where
    by : (o : Outcome) → outcome_of (take k bytes) ≡ o → HasNoFault o
    by (goes t m) is = tt
    by (stops t m fault used) is =
        let same : outcome_of bytes ≡ stops t m fault used = ap outcome_of (sym (take-append-drop k bytes)) ∙ stops-append greatest_line empty_start (take k bytes) (drop k bytes) t m used fault is in
        let both : goes s n ≡ stops t m fault used = sym comes ∙ same in
        absurd (cc)

-- bytes that come to tables are shown as these
pub shown : (bytes : List ℕ) (s : Start) (n : ℕ) → outcome_of bytes ≡ goes s n
    → (view : View) (lints : LintsView) (left old new : Option (List ℕ)) (result : Result ℕ AppFault) → Views view lints (Some bytes) left result old new → ShowsTables view lints s.tables result old new
shown bytes s n comes = shows_tables bytes s n comes (λ k. fronts bytes s n k comes)

-- ---- what goes out of a line that stops

-- what went out of a command that stops has no line end
command_front : (sent : List Sending) (s : Said) (stop : Stop) (front : List ℕ) → FrontOf sent s stop front → is_one_line front ≡ true
command_front sent (publish moment whole) WriteFault front f = cut_is_one_line (line_sent (tables_sent empty_tables sent) f.0) front f.5
command_front sent (publish moment whole) stop front f = ap is_one_line f
command_front sent s stop front f = ap is_one_line f

pub line_front : (sent : List Sending) (line : Line) (stop : Stop) (front : List ℕ) → Fronts sent line stop front → is_one_line front ≡ true
line_front sent (says s) stop front f = command_front sent s stop front f
line_front sent line stop front f = ap is_one_line f
