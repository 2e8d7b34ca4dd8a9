-- Feeding one piece after another.
use Rattle.std.proofs.Common.{◌≡◌, ℕ, ◌+◌, ◌-◌, ◌≤◌, ◌<◌, List, [], ◌∷◌, ◌++◌, length, take, drop, true, Option, Some, None, refl, ap, ap₂, sym, ◌∙◌, append-nil, arith, length-take, length-drop}
use Rattle.std.proofs.lemmas.List.{take_all}
use Rattle.std.proofs.Math.Seq.{take-add}
use Rattle.tk_client.specs.declared.fault.Fault.{Fault}
use Rattle.tk_client.specs.declared.fault.Fault.TheVariants.{Memory, BadJson, BadShape, Gap, UnknownId, Repeated, TooLong, Misfit, Failed}
use Rattle.tk_client.specs.declared.fault.FeedError.{FeedError}
use Rattle.tk_client.specs.Meaning.{Start, Outcome, cut, goes, stops, after, meaning}
use Rattle.tk_client.specs.Changes.{timed_in}
use Rattle.tk_client.specs.Feeding.{ClientView, StoppedBy, lines_of}
use Rattle.tk_client.specs.Applying.{EndedBy}
use Rattle.tk_stream.specs.Spelling.{is_one_line}
use Rattle.tk_client.proofs.Ends.{cut-no_end}
use Rattle.tk_client.proofs.Pieces.{cut-append, glue, meaning-append}

pub goes-then : (max : ℕ) (s t u : Start) (a b : List ℕ) (m n : ℕ) → meaning max s a ≡ goes t m → meaning max t b ≡ goes u n → meaning max s (a ++ b) ≡ goes u (m + n)
goes-then max s t u a b m n e f = meaning-append max s t a b m e ∙ ap (after m (length a)) f

-- what stopped after lines and bytes
abbrev pub later : ℕ → ℕ → FeedError → FeedError
later m k e = record { lines = m + e.lines; used = k + e.used; fault = e.fault }

pub stopped-then : (fault : Fault) (o p : Outcome) (m k : ℕ) (e : FeedError) (new : ClientView) → p ≡ after m k o → StoppedBy fault o e new → StoppedBy fault p (later m k e) new
stopped-then Memory o p m k e new is h = (is ∙ ap (after m k) h.0, h.1)
stopped-then BadJson o p m k e new is h = (is ∙ ap (after m k) h.0, h.1)
stopped-then BadShape o p m k e new is h = (is ∙ ap (after m k) h.0, h.1)
stopped-then (Gap x y) o p m k e new is h = (is ∙ ap (after m k) h.0, h.1)
stopped-then UnknownId o p m k e new is h = (is ∙ ap (after m k) h.0, h.1)
stopped-then Repeated o p m k e new is h = (is ∙ ap (after m k) h.0, h.1)
stopped-then TooLong o p m k e new is h = (is ∙ ap (after m k) h.0, h.1)
stopped-then Misfit o p m k e new is h = (is ∙ ap (after m k) h.0, h.1)
stopped-then Failed o p m k e new is h = (is ∙ ap (after m k) h.0, h.1)

-- a fault through a line end
abbrev pub at_end : Fault → FeedError
at_end fault = record { lines = 0; used = 1; fault = fault }

stopped_at_end : (fault : Fault) (mid new : ClientView) (o : Outcome) → (o ≡ stops mid.start.tables 0 fault 1) × (new ≡ record mid { has_failed = true })
    → (o ≡ stops new.start.tables 0 fault 1) × (new.has_failed ≡ true)
stopped_at_end fault mid new o h = (h.0 ∙ ap (λ (v : ClientView). stops v.start.tables 0 fault 1) (sym h.1), ap (λ (v : ClientView). v.has_failed) h.1)

pub ended-stopped : (fault : Fault) (mid new : ClientView) → (fault ≡ Memory → ⊥) → EndedBy fault mid new → StoppedBy fault (meaning mid.max_line mid.start (10 ∷ [])) (at_end fault) new
ended-stopped Memory mid new other h = absurd (other refl)
ended-stopped BadJson mid new other h = stopped_at_end _ mid new _ h
ended-stopped BadShape mid new other h = stopped_at_end _ mid new _ h
ended-stopped (Gap x y) mid new other h = stopped_at_end _ mid new _ h
ended-stopped UnknownId mid new other h = stopped_at_end _ mid new _ h
ended-stopped Repeated mid new other h = stopped_at_end _ mid new _ h
ended-stopped TooLong mid new other h = stopped_at_end _ mid new _ h
ended-stopped Misfit mid new other h = stopped_at_end _ mid new _ h
ended-stopped Failed mid new other h = stopped_at_end _ mid new _ h

-- the bytes of a piece from a place on
pub rest_is : (at : ℕ) (piece : List ℕ) → take (length piece - at) (drop at piece) ≡ drop at piece
rest_is at piece = take_all (length piece - at) (drop at piece) (omega (arith, length-drop at piece))

-- bytes that lead on, after those that were taken
pub goes_on : (max : ℕ) (s t u : Start) (piece : List ℕ) (at used m n : ℕ) → at ≤ length piece → meaning max s (take at piece) ≡ goes t m
    → meaning max t (take used (take (length piece - at) (drop at piece))) ≡ goes u n → meaning max s (take (at + used) piece) ≡ goes u (m + n)
goes_on max s t u piece at used m n within e f =
    ap (meaning max s) (take-add at used piece)
    ∙ goes-then max s t u (take at piece) (take used (drop at piece)) m n e (ap (λ rest. meaning max t (take used rest)) (sym (rest_is at piece)) ∙ f)

-- a fault after bytes that were taken
pub stops_on : (max : ℕ) (s t : Start) (piece : List ℕ) (at m : ℕ) (e : FeedError) (new : ClientView) → at ≤ length piece → meaning max s (take at piece) ≡ goes t m
    → StoppedBy e.fault (meaning max t (take e.used (take (length piece - at) (drop at piece)))) e new
    → StoppedBy e.fault (meaning max s (take (at + e.used) piece)) (later m at e) new
stops_on max s t piece at m e new within came h =
    let len : length (take at piece) ≡ at = omega (arith, length-take at piece) in
    stopped-then e.fault (meaning max t (take e.used (take (length piece - at) (drop at piece)))) (meaning max s (take (at + e.used) piece)) m at e new
    (ap (meaning max s) (take-add at e.used piece) ∙ meaning-append max s t (take at piece) (take e.used (drop at piece)) m came
    ∙ ap₂ (λ k rest. after m k (meaning max t (take e.used rest))) len (sym (rest_is at piece)))
    h

pub within_piece : (at used : ℕ) (piece : List ℕ) → at ≤ length piece → used ≤ length (take (length piece - at) (drop at piece)) → at + used ≤ length piece
within_piece at used piece within h = omega (arith, length-take (length piece - at) (drop at piece), length-drop at piece)

-- ---- one line of bytes

-- a line and its end
pub cut-line : (line : List ℕ) → is_one_line line ≡ true → cut (line ++ 10 ∷ []) ≡ (line ∷ [], [])
cut-line line whole =
    cut-append line (10 ∷ [])
    ∙ ap (λ (c : List (List ℕ) × List ℕ). glue c (cut (10 ∷ []))) (cut-no_end line whole)
    ∙ ap (λ (l : List ℕ). (l ∷ [], [])) (append-nil line)

-- of one line at most there are no more than bytes
pub lines-few : {A : Type 0} (said : Option A) (used : ℕ) → 0 < used → lines_of said ≤ used
lines-few None used some = omega arith
lines-few (Some x) used some = omega (arith, some)

-- a line end that wasn't taken leaves what is shown
pub ended-kept : (fault : Fault) (old new : ClientView) → EndedBy fault old new → timed_in new.start ≡ timed_in old.start
ended-kept Memory old new h = ap (λ (v : ClientView). timed_in v.start) h
ended-kept BadJson old new h = ap (λ (v : ClientView). timed_in v.start) h.1
ended-kept BadShape old new h = ap (λ (v : ClientView). timed_in v.start) h.1
ended-kept (Gap x y) old new h = ap (λ (v : ClientView). timed_in v.start) h.1
ended-kept UnknownId old new h = ap (λ (v : ClientView). timed_in v.start) h.1
ended-kept Repeated old new h = ap (λ (v : ClientView). timed_in v.start) h.1
ended-kept TooLong old new h = ap (λ (v : ClientView). timed_in v.start) h.1
ended-kept Misfit old new h = ap (λ (v : ClientView). timed_in v.start) h.1
ended-kept Failed old new h = ap (λ (v : ClientView). timed_in v.start) h.1
