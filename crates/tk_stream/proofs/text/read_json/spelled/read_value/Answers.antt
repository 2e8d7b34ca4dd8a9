use Rattle.std.proofs.Common.{◌≡◌, [], ◌∷◌, ap, ◌∙◌, arith}
use Rattle.json.specs.Json.{parse_map}
use Rattle.json.specs.Reads.{token_of}
use Rattle.serde_json.specs.Data.{object}
use Rattle.tk_json.specs.Values.{value_read}
use Rattle.tk_json.proofs.Steps.{nothing_read, object_read, ok_holds}
use Rattle.tk_stream.proofs.Keys.{object_line, other_value}
use Rattle.tk_stream.proofs.text.read_json.spelled.read_value.Goals as goal

pub returns-in_default-clause-refused : goal.returns-in_default-clause-refused
returns-in_default-clause-refused c = λ _.
    let empty : c.args.reader.now ≡ [] = grind arith in
    ap (value_read 127) empty ∙ nothing_read 127

pub returns-in-BeginObject-clause-read : goal.returns-in-BeginObject-clause-read
returns-in-BeginObject-clause-read c =
    let first : c.args.reader.now ≡ token_of c.in-Some.token ∷ c.next.new.self = grind arith in
    let line = object_line 127 _ _ (first ∙ ap (λ k. token_of k ∷ c.next.new.self) c.in-BeginObject.is) (omega arith) in
    ok_holds c.read_object.result _ _ (λ o e. line ∙ e) c.read_object.ensures.read

pub returns-in-BeginObject-clause-refused : goal.returns-in-BeginObject-clause-refused
returns-in-BeginObject-clause-refused c = λ refused.
    let first : c.args.reader.now ≡ token_of c.in-Some.token ∷ c.next.new.self = grind arith in
    object_read 127 _ _ (first ∙ ap (λ k. token_of k ∷ c.next.new.self) c.in-BeginObject.is) (omega arith) ∙ ap (parse_map object) (c.read_object.ensures.refused refused)

pub returns-in_ok-pass_token-in_default-token : goal.returns-in_ok-pass_token-in_default-token
returns-in_ok-pass_token-in_default-token c = record {
  read =
      let first : c.args.reader.now ≡ token_of c.in-Some.token ∷ c.next.new.self = grind arith in
      other_value 127 c.in-Some.token _ _ _ first c.in_default-token.not-BeginObject c.in_ok-pass_token-in_default-token.ensures.passed;
  refused = λ e. absurd (cc);
}
