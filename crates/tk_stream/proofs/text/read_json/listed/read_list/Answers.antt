use Rattle.std.proofs.Common.{◌≡◌, [], ◌∷◌, ap, ◌∙◌, arith}
use Rattle.json.specs.Json.{parse_map}
use Rattle.json.specs.Reads.{token_of}
use Rattle.serde_json.specs.Data.{array}
use Rattle.tk_json.specs.Values.{value_read}
use Rattle.tk_json.proofs.Steps.{nothing_read, array_read, array_deep}
use Rattle.tk_stream.proofs.Listing.{array_listed, other_passed}
use Rattle.tk_stream.proofs.text.read_json.listed.read_list.Goals as goal

pub returns-in_default-clause-refused : goal.returns-in_default-clause-refused
returns-in_default-clause-refused g c = λ _.
    let empty : c.args.reader.now ≡ [] = grind arith in
    ap (value_read c.args.depth) empty ∙ nothing_read c.args.depth

pub returns-then-depth-eq0-clause-refused : goal.returns-then-depth-eq0-clause-refused
returns-then-depth-eq0-clause-refused g c = λ _.
    let first : c.args.reader.now ≡ token_of c.in-Some.token ∷ c.next.new.self = grind arith in
    array_deep c.args.depth _ _ (first ∙ ap (λ k. token_of k ∷ c.next.new.self) c.in-BeginArray.is) (omega arith)

pub returns-in_err-list-in-BeginArray-clause-refused : goal.returns-in_err-list-in-BeginArray-clause-refused
returns-in_err-list-in-BeginArray-clause-refused g c = λ refused.
    let first : c.args.reader.now ≡ token_of c.in-Some.token ∷ c.next.new.self = grind arith in
    array_read c.args.depth _ _ (first ∙ ap (λ k. token_of k ∷ c.next.new.self) c.in-BeginArray.is) (omega arith) ∙ ap (parse_map array) (c.read_items.ensures.refused (grind arith))

pub returns-in_ok-list-in-BeginArray-clause-read : goal.returns-in_ok-list-in-BeginArray-clause-read
returns-in_ok-list-in-BeginArray-clause-read g c =
    let first : c.args.reader.now ≡ token_of c.in-Some.token ∷ c.next.new.self = grind arith in
    array_listed g.T.Shaped.shape c.args.depth _ _ (first ∙ ap (λ k. token_of k ∷ c.next.new.self) c.in-BeginArray.is) (omega arith) ∙ c.in_ok-list-in-BeginArray.ensures.read

pub returns-in_ok-pass_token-in_default-token : goal.returns-in_ok-pass_token-in_default-token
returns-in_ok-pass_token-in_default-token g c = record {
  read =
      let first : c.args.reader.now ≡ token_of c.in-Some.token ∷ c.next.new.self = grind arith in
      other_passed g.T.Shaped.shape c.args.depth c.in-Some.token _ _ _ first c.in_default-token.not-BeginArray c.in_ok-pass_token-in_default-token.ensures.passed;
  refused = λ e. absurd (cc);
}
