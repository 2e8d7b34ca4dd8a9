-- What reading bytes as JSON answers.
use Rattle.std.proofs.Common.{◌≡◌, ℕ, List, [], ◌∷◌, Bool, true, false, cond, Option, Some, None, option_map, option_and_then, Result, Ok, Err, refl, sym, ap, ◌∙◌}
use Rattle.std.specs.Option.{option_map_or}
use Rattle.std.specs.Str.{IsUtf8, is_utf8}
use Rattle.std.proofs.lemmas.Str.{IsUtf8-from_is_utf8, is_utf8-from_IsUtf8}
use Rattle.serde_json.specs.Data.{Data}
use Rattle.json.specs.Token.{Token}
use Rattle.json.specs.Lex.{tokens}
use Rattle.json.specs.Json as json
use Rattle.json.specs.Json.{parse_map, value, if_last}
use Rattle.serde_json.specs.Read.{read, of_json, converted}
use Rattle.tk_json.specs.Values.{value_read}
use Rattle.tk_json.proofs.Growing.{mapped_some}
use Rattle.tk_stream.specs.Lines.{LineView}
use Rattle.tk_stream.specs.Outcome.{Fails, shaped, ◌then◌}
use Rattle.tk_stream.specs.Errors.{fault_of}
use Rattle.tk_json.specs.declared.fault.JsonFault.{JsonFault}
use Rattle.tk_json.specs.declared.fault.JsonFault.TheVariants as json_faults
use Rattle.tk_stream.specs.declared.error.LineError.{LineError}
use Rattle.tk_stream.specs.declared.error.LineError.TheVariants.{BadJson}
use Rattle.tk_stream.specs.Reading.{line_of, json_of, json_or_fault, line_of_text}

pub json_read : (bytes : List ℕ) (d : Data) → IsUtf8 bytes → read bytes ≡ Some d → json_or_fault bytes ≡ Ok d
unfolding json_of
json_read bytes d utf8 is = rw (is_utf8-from_IsUtf8 bytes utf8, is) refl

refused_by : (bytes : List ℕ) (b : Bool) → is_utf8 bytes ≡ b → (IsUtf8 bytes → read bytes ≡ None) → option_map_or Ok (cond b (read bytes) None) (Err BadJson) ≡ Err BadJson
refused_by bytes true e h = ap (λ o. option_map_or Ok o (Err BadJson)) (h (IsUtf8-from_is_utf8 bytes e))
refused_by bytes false e h = refl

pub json_refused : (bytes : List ℕ) → (IsUtf8 bytes → read bytes ≡ None) → json_or_fault bytes ≡ Err BadJson
unfolding json_of
json_refused bytes h = refused_by bytes (is_utf8 bytes) refl h

-- ---- a text that was read as tokens

whole : Option (json.Json × List Token) → Option Data
whole o = option_and_then of_json (option_and_then (λ p. if_last p.0 p.1) o)

the : {A : Type 0} → A → Option A → A
the a None = a
the a (Some b) = b

value_by : (j : json.Json) (r s : List Token) (d : Data) (o : Option Data) → of_json j ≡ o → option_map {U = Data × List Token} (λ x. (x, r)) o ≡ Some (d, s) → (of_json j ≡ Some d) × (r ≡ s)
unfolding the
value_by j r s d None is e = absurd (cc)
value_by j r s d (Some x) is e = let same = ap (the (d, s)) e in (is ∙ ap (λ q. Some q.0) same, ap (λ q. q.1) same)

none_by : (j : json.Json) (r : List Token) (o : Option Data) → of_json j ≡ o → option_map {U = Data × List Token} (λ x. (x, r)) o ≡ None → of_json j ≡ None
none_by j r None is e = is
none_by j r (Some x) is e = absurd (cc)

ended : (o : Option (json.Json × List Token)) (d : Data) → converted of_json o ≡ Some (d, []) → whole o ≡ Some d
unfolding whole
ended None d e = absurd (cc)
ended (Some (j, [])) d e = (value_by j [] [] d (of_json j) refl e).0
ended (Some (j, t ∷ r)) d e = let never = (value_by j (t ∷ r) [] d (of_json j) refl e).1 in absurd (cc)

more_after : (o : Option (json.Json × List Token)) (d : Data) (t : Token) (r : List Token) → converted of_json o ≡ Some (d, t ∷ r) → whole o ≡ None
unfolding whole
more_after None d t r e = absurd (cc)
more_after (Some (j, [])) d t r e = let never = (value_by j [] (t ∷ r) d (of_json j) refl e).1 in absurd (cc)
more_after (Some (j, s ∷ ts)) d t r e = refl

none_read : (o : Option (json.Json × List Token)) → converted of_json o ≡ None → whole o ≡ None
unfolding whole
none_read None e = refl
none_read (Some (j, [])) e = none_by j [] (of_json j) refl e
none_read (Some (j, t ∷ r)) e = refl

-- the line of a text that was read whole, if it is one
pub line_read : (bytes : List ℕ) (line : Option LineView) → IsUtf8 bytes → parse_map line_of (value_read 127 (tokens bytes)) ≡ Some (line, []) → line_of_text bytes ≡ shaped line
unfolding whole
line_read bytes line utf8 e =
    let d = mapped_some line_of (value_read 127 (tokens bytes)) line [] e in
    ap (λ r. r then λ x. shaped (line_of x)) (json_read bytes d.0 utf8 (ended (value 127 (tokens bytes)) d.0 d.1)) ∙ ap shaped (sym d.2)

-- a text with more after its value
pub more_read : (bytes : List ℕ) (line : Option LineView) (t : Token) (r : List Token) → parse_map line_of (value_read 127 (tokens bytes)) ≡ Some (line, t ∷ r) → line_of_text bytes ≡ Err BadJson
unfolding whole
more_read bytes line t r e =
    let d = mapped_some line_of (value_read 127 (tokens bytes)) line (t ∷ r) e in
    ap (λ x. x then λ y. shaped (line_of y)) (json_refused bytes (λ utf8. more_after (value 127 (tokens bytes)) d.0 t r d.1))

-- a text that begins with no value
pub value_refused : (bytes : List ℕ) → value_read 127 (tokens bytes) ≡ None → line_of_text bytes ≡ Err BadJson
unfolding whole
value_refused bytes e = ap (λ x. x then λ y. shaped (line_of y)) (json_refused bytes (λ utf8. none_read (value 127 (tokens bytes)) e))

-- bytes that are no text
pub no_text : (bytes : List ℕ) → (IsUtf8 bytes → ⊥) → line_of_text bytes ≡ Err BadJson
no_text bytes h = ap (λ x. x then λ y. shaped (line_of y)) (json_refused bytes (λ utf8. absurd (h utf8)))

-- a fault of the text is answered
pub fault_fails : {A : Type 0} (fault : JsonFault) (wanted : Result A LineError) → (fault ≡ json_faults.BadJson → wanted ≡ Err BadJson) → Fails (fault_of fault) wanted
fault_fails json_faults.Memory wanted h = tt
fault_fails json_faults.BadJson wanted h = h refl
