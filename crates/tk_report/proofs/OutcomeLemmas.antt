-- What a view of bytes writes that come to tables, and lines that go on from nothing.
use Rattle.std.proofs.Common.{◌≡◌, ℕ, List, [], ◌∷◌, ◌++◌, length, take, Bool, true, false, ◌||◌, Option, Some, None, Result, Ok, Err, refl, ap, sym, subst, ◌∙◌}
use Rattle.std.specs.Io.KnownBytes.{Appends}
use Rattle.std.proofs.lemmas.Bool.{eq-eqb}
use Rattle.tk_stream.specs.Sent.{IsCut}
use Rattle.tk_stream.specs.Streams.{Sending, GoesOn, IsUninterrupted}
use Rattle.tk_stream.specs.Tables.{TablesView, empty_tables}
use Rattle.tk_client.specs.Meaning.{Start, goes}
use Rattle.tk_client.specs.Streams.{HasNoFault}
use Rattle.tk_client.specs.Warnings.{LintsView, warnings_in}
use Rattle.tk_fault.specs.declared.fault.AppFault.{AppFault}
use Rattle.tk_fault.specs.declared.fault.AppFault.TheVariants as faults
use Rattle.tk_reading.specs.Outcomes.{HaveFault, LeadTo, outcome_of}
use Rattle.tk_report.specs.declared.view.View.{View}
use Rattle.tk_report.specs.Uninterrupted.{ShowsTables}
use Rattle.tk_report.specs.Views.{Views, text_of}

or_true : (b c : Bool) → c ≡ true → (b || c) ≡ true
or_true true c is = refl
or_true false c is = is

-- lines that go on from number 0 are an uninterrupted stream
pub uninterrupted : (sent : List Sending) → GoesOn empty_tables 0 sent → IsUninterrupted sent
uninterrupted [] on = on
uninterrupted (s ∷ ss) on = (or_true s.snapshot _ (eq-eqb s.seq 1 on.0), on.1, on.2)

pub take_front : (a b : List ℕ) → take (length a) (a ++ b) ≡ a
take_front [] b = refl
take_front (x ∷ a) b = ap (λ (l : List ℕ). x ∷ l) (take_front a b)

-- bytes lead to one outcome
same_tables : (s t : Start) (m n : ℕ) → goes s m ≡ goes t n → s.tables ≡ t.tables
same_tables s t m n is = let same : s ≡ t = cc in ap (λ (x : Start). x.tables) same

leads : (bytes : List ℕ) (tables : TablesView) (s : Start) (n : ℕ) → outcome_of bytes ≡ goes s n → LeadTo (Some bytes) tables → tables ≡ s.tables
leads bytes tables s n is lead =
    let here : outcome_of bytes ≡ goes lead.start lead.lines = ap outcome_of lead.all ∙ lead.come in
    sym lead.shows ∙ same_tables lead.start s lead.lines n (sym here ∙ is)

no_fault : (bytes : List ℕ) (left : Option (List ℕ)) (lines : ℕ) (fault : _) → ((n : ℕ) → HasNoFault (outcome_of (take n bytes))) → HaveFault (Some bytes) left lines fault → ⊥
no_fault bytes None lines fault none have = have.read
no_fault bytes (Some ys) lines fault none have =
    let front : take (length have.bytes) bytes ≡ have.bytes = ap (λ (l : List ℕ). take (length have.bytes) l) have.read ∙ take_front have.bytes ys in
    subst HasNoFault (ap outcome_of front ∙ have.stop) (none (length have.bytes))

-- bytes that come to tables, and of which no front has a fault, are shown as these
pub shows_tables : (bytes : List ℕ) (s : Start) (n : ℕ) → outcome_of bytes ≡ goes s n → ((k : ℕ) → HasNoFault (outcome_of (take k bytes)))
    → (view : View) (lints : LintsView) (left old new : Option (List ℕ)) (result : Result ℕ AppFault) → Views view lints (Some bytes) left result old new
    → ShowsTables view lints s.tables result old new
shows_tables bytes s n is none view lints left old new (Ok warnings) v =
    let same = leads bytes v.tables s n is v.lead in
    (subst (λ (t : TablesView). Appends old new (text_of view lints t)) same v.wrote, v.counted ∙ ap (λ (t : TablesView). length (warnings_in lints t)) same)
shows_tables bytes s n is none view lints left old new (Err faults.Write) v =
    let same = leads bytes v.tables s n is v.lead in
    (v.front, subst (λ (t : TablesView). IsCut (text_of view lints t) v.front) same v.cut, v.wrote)
shows_tables bytes s n is none view lints left old new (Err (faults.Stream lines fault)) v = no_fault bytes left lines fault none v
shows_tables bytes s n is none view lints left old new (Err faults.Memory) v = v
shows_tables bytes s n is none view lints left old new (Err faults.Read) v = v
shows_tables bytes s n is none view lints left old new (Err (faults.Script line name)) v = v
