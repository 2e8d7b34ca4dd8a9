use Rattle.std.proofs.Common.{◌≡◌, [], ◌∷◌, Some, Err, ap, ◌∙◌, arith}
use Rattle.std.proofs.lemmas.Result.{err_from_is_err_and}
use Rattle.json.specs.Json.{parse_map}
use Rattle.json.specs.Lex.{tokens}
use Rattle.json.specs.Reads.{token_of}
use Rattle.tk_json.specs.Values.{value_read}
use Rattle.tk_stream.specs.Outcome.{shaped}
use Rattle.tk_stream.specs.Reading.{line_of, line_of_text}
use Rattle.tk_stream.proofs.Texts.{line_read, more_read, value_refused, no_text, fault_fails}
use Rattle.tk_stream.proofs.text.read_json.spelled.read_spelled.Goals as goal

pub returns-in_default : goal.returns-in_default
returns-in_default c = no_text c.args.bytes.now (grind arith)

pub returns-in_err-found : goal.returns-in_err-found
returns-in_err-found c =
    let p = err_from_is_err_and c.from_residual-in_err-found.result c.from_residual-in_err-found.ensures.1 in
    let start : c.in_ok-reader.reader ≡ tokens c.args.bytes.now = c.in_ok-reader.ensures.ok ∙ ap tokens c.in-Ok.ensures.cases.0 in
    rw (p.1, p.2) (fault_fails c.in_err-found.field-0.0 (line_of_text c.args.bytes.now) (λ bad. value_refused c.args.bytes.now (rw start at c.in_err-found.ensures.refused (ap Err bad))))

pub returns-in-Some : goal.returns-in-Some
returns-in-Some c =
    let start : c.in_ok-reader.reader ≡ tokens c.args.bytes.now = c.in_ok-reader.ensures.ok ∙ ap tokens c.in-Ok.ensures.cases.0 in
    let more : c.read_value.new.reader ≡ token_of c.in-Some.field-0 ∷ c.next.new.self = grind arith in
    more_read c.args.bytes.now c.in_ok-found.found (token_of c.in-Some.field-0) c.next.new.self (rw (← start, ← more) c.in_ok-found.ensures.read)

pub returns-in-Some-found : goal.returns-in-Some-found
returns-in-Some-found c =
    let start : c.in_ok-reader.reader ≡ tokens c.args.bytes.now = c.in_ok-reader.ensures.ok ∙ ap tokens c.in-Ok.ensures.cases.0 in
    let over : c.read_value.new.reader ≡ [] = grind arith in
    let all : parse_map line_of (value_read 127 (tokens c.args.bytes.now)) ≡ Some (c.in_ok-found.found, []) = rw (← start, ← over) c.in_ok-found.ensures.read in
    line_read c.args.bytes.now c.in_ok-found.found c.in-Ok.ensures.cases.1 all ∙ ap shaped c.in-Some-found.is

pub returns : goal.returns
returns c =
    let start : c.in_ok-reader.reader ≡ tokens c.args.bytes.now = c.in_ok-reader.ensures.ok ∙ ap tokens c.in-Ok.ensures.cases.0 in
    let over : c.read_value.new.reader ≡ [] = grind arith in
    let all : parse_map line_of (value_read 127 (tokens c.args.bytes.now)) ≡ Some (c.in_ok-found.found, []) = rw (← start, ← over) c.in_ok-found.ensures.read in
    line_read c.args.bytes.now c.in_ok-found.found c.in-Ok.ensures.cases.1 all ∙ ap shaped c.in-None.is
