use Rattle.std.proofs.Common.{◌≡◌, ◌<◌, length, ◌∷◌, [], Some, None, ap, refl, ◌∙◌, arith}
use Rattle.json.specs.Json.{parse_map, after_end_array, read_key, value}
use Rattle.json.specs.Reads.{token_of}
use Rattle.json.proofs.Grammar.{read_key-shorter, left_some, value_is}
use Rattle.serde_json.specs.Data.{array, object, put, no_members}
use Rattle.serde_json.specs.Read.{of_json, converted}
use Rattle.serde_json.specs.View.{number_view}
use Rattle.tk_json.specs.Values.{value_read, rest}
use Rattle.tk_json.proofs.Steps.{nothing_read, item_passed, item_refused, items_over, member_read, member_refused, members_refused, members_over, array_read, array_deep, array_passed, object_read, object_deep, object_passed, text_read, flag_read, null_read, number_read, number_refused, rest_none, on_err, ok_gives, err_gives}
use Rattle.tk_json.proofs.passing.+pass.Goals as goal

pub pass-returns-in_default-clause-refused : goal.pass-returns-in_default-clause-refused
pass-returns-in_default-clause-refused t c =
    let empty : c.args.reader.now ≡ [] = grind arith in
    ap (value_read c.args.depth) empty ∙ nothing_read c.args.depth

pub pass_items-items-preserved : goal.pass_items-items-preserved
pass_items-items-preserved t c =
    let l = c.items in
    let going : (after_end_array l.reader ≡ None) × (c.take_end_array.new.self ≡ l.reader) = grind arith in
    let done = c.in_ok-pass.ensures in
    let less : length c.pass.new.reader < length l.reader = rw (← going.1) done.shorter in
    record {
      same = l.invariant.same ∙ item_passed c.args.depth l.reader c.pass.new.reader going.0 (rw (← going.1) done.passed);
      fewer = omega (arith, l.invariant.fewer, less);
    }

pub pass_items-returns-in_err-pass-clause-refused : goal.pass_items-returns-in_err-pass-clause-refused
pass_items-returns-in_err-pass-clause-refused t c =
    let l = c.items in
    let going : (after_end_array l.reader ≡ None) × (c.take_end_array.new.self ≡ l.reader) = grind arith in
    let none = item_refused c.args.depth l.reader going.0 (rw (← going.1) c.in_err-pass.ensures.refused) in
    on_err c.from_residual.result _ (rest_none _ (l.invariant.same ∙ ap rest none))

pub pass_items-returns-clause-passed : goal.pass_items-returns-clause-passed
pass_items-returns-clause-passed t c =
    let l = c.items in
    l.invariant.same ∙ ap rest (items_over c.args.depth l.reader c.take_end_array.new.self (grind arith))

pub pass_members-members-init : goal.pass_members-members-init
pass_members-members-init t c = record { same = λ held. (held, refl); fewer = omega arith }

pub pass_members-returns-in_err-next_key-clause-refused : goal.pass_members-returns-in_err-next_key-clause-refused
pass_members-returns-in_err-next_key-clause-refused t c =
    let l = c.members in
    on_err c.from_residual.result _ (λ held. let now = l.invariant.same held in now.1 ∙ members_refused now.0 c.args.depth l.reader c.in_err-next_key.ensures.value)

pub pass_members-members-preserved : goal.pass_members-members-preserved
pass_members-members-preserved t c =
    let l = c.members in
    let k = c.in-Some.field-0.now in
    let s = c.next_key.new.self in
    let named : read_key l.reader ≡ Some (Some k, s) = grind arith in
    let done = c.in_ok-pass.ensures in
    let value = left_some (value_read c.args.depth s) c.pass.new.reader done.passed in
    let less = read_key-shorter l.reader (Some k) s named in
    record {
      same = λ held. let now = l.invariant.same held in (put k value.0 now.0, now.1 ∙ member_read now.0 c.args.depth l.reader k s c.pass.new.reader value.0 named value.1);
      fewer = omega (arith, l.invariant.fewer, done.shorter);
    }

pub pass_members-returns-in_err-pass-clause-refused : goal.pass_members-returns-in_err-pass-clause-refused
pass_members-returns-in_err-pass-clause-refused t c =
    let l = c.members in
    let k = c.in-Some.field-0.now in
    let s = c.next_key.new.self in
    let named : read_key l.reader ≡ Some (Some k, s) = grind arith in
    on_err c.from_residual-in_err-pass.result _ (λ held. let now = l.invariant.same held in now.1 ∙ member_refused now.0 c.args.depth l.reader k s named c.in_err-pass.ensures.refused)

pub pass_members-returns-clause-passed : goal.pass_members-returns-clause-passed
pass_members-returns-clause-passed t c =
    let l = c.members in
    let over : read_key l.reader ≡ Some (None, c.next_key.new.self) = grind arith in
    λ held. let now = l.invariant.same held in ap rest (now.1 ∙ members_over now.0 c.args.depth l.reader c.next_key.new.self over)

pub pass_token-returns-then-depth-eq0-clause-refused : goal.pass_token-returns-then-depth-eq0-clause-refused
pass_token-returns-then-depth-eq0-clause-refused t c =
    array_deep c.args.depth _ c.args.reader.now (ap (λ k. token_of k ∷ c.args.reader.now) c.in-BeginArray.is) (omega arith)

pub pass_token-returns-then-depth-eq0-2-clause-refused : goal.pass_token-returns-then-depth-eq0-2-clause-refused
pass_token-returns-then-depth-eq0-2-clause-refused t c =
    object_deep c.args.depth _ c.args.reader.now (ap (λ k. token_of k ∷ c.args.reader.now) c.in-BeginObject.is) (omega arith)

pub pass_token-returns-in-String-clause-passed : goal.pass_token-returns-in-String-clause-passed
pass_token-returns-in-String-clause-passed t c =
    ap rest (text_read c.args.depth _ c.args.reader.now _ (ap (λ k. token_of k ∷ c.args.reader.now) c.in-String.is))

pub pass_token-returns-in-Bool-clause-passed : goal.pass_token-returns-in-Bool-clause-passed
pass_token-returns-in-Bool-clause-passed t c =
    ap rest (flag_read c.args.depth _ c.args.reader.now _ (ap (λ k. token_of k ∷ c.args.reader.now) c.in-Bool.is))

pub pass_token-returns-in-Null-clause-passed : goal.pass_token-returns-in-Null-clause-passed
pass_token-returns-in-Null-clause-passed t c = ap rest (null_read c.args.depth _ c.args.reader.now (ap (λ k. token_of k ∷ c.args.reader.now) c.in-Null.is))

pub pass_token-returns-in-Some-clause-passed : goal.pass_token-returns-in-Some-clause-passed
pass_token-returns-in-Some-clause-passed t c =
    ap rest (number_read c.args.depth _ c.args.reader.now _ (number_view c.in-Some.field-0) (ap (λ k. token_of k ∷ c.args.reader.now) c.in-Number.is) c.in-Some.ensures)

pub pass_token-returns-in-None-clause-refused : goal.pass_token-returns-in-None-clause-refused
pass_token-returns-in-None-clause-refused t c =
    number_refused c.args.depth _ c.args.reader.now _ (ap (λ k. token_of k ∷ c.args.reader.now) c.in-Number.is) c.in-None.ensures

pub pass_token-returns-in-EndObject-clause-refused : goal.pass_token-returns-in-EndObject-clause-refused
pass_token-returns-in-EndObject-clause-refused t c =
    let none : value c.args.depth (token_of c.args.token ∷ c.args.reader.now) ≡ None = rw (value_is c.args.depth (token_of c.args.token ∷ c.args.reader.now)) (grind arith) in
    ap (converted of_json) none

pub pass_token-returns-else-depth-eq0-clause-passed : goal.pass_token-returns-else-depth-eq0-clause-passed
pass_token-returns-else-depth-eq0-clause-passed t c =
    rw (array_passed c.args.depth (token_of c.args.token ∷ c.args.reader.now) c.args.reader.now (ap (λ k. token_of k ∷ c.args.reader.now) c.in-BeginArray.is) (omega arith)) c.pass_items.ensures.passed

pub pass_token-returns-else-depth-eq0-clause-refused : goal.pass_token-returns-else-depth-eq0-clause-refused
pass_token-returns-else-depth-eq0-clause-refused t c =
    let array_next = array_read c.args.depth (token_of c.args.token ∷ c.args.reader.now) c.args.reader.now (ap (λ k. token_of k ∷ c.args.reader.now) c.in-BeginArray.is) (omega arith) in
    err_gives c.pass_items.result _ _ (λ none. array_next ∙ ap (parse_map array) none) c.pass_items.ensures.refused

pub pass_token-returns-else-depth-eq0-2-clause-passed : goal.pass_token-returns-else-depth-eq0-2-clause-passed
pass_token-returns-else-depth-eq0-2-clause-passed t c =
    let object_next = object_passed c.args.depth (token_of c.args.token ∷ c.args.reader.now) c.args.reader.now (ap (λ k. token_of k ∷ c.args.reader.now) c.in-BeginObject.is) (omega arith) in
    ok_gives c.pass_members.result _ _ (λ all. object_next ∙ all no_members) c.pass_members.ensures.passed

pub pass_token-returns-else-depth-eq0-2-clause-refused : goal.pass_token-returns-else-depth-eq0-2-clause-refused
pass_token-returns-else-depth-eq0-2-clause-refused t c =
    let object_next = object_read c.args.depth (token_of c.args.token ∷ c.args.reader.now) c.args.reader.now (ap (λ k. token_of k ∷ c.args.reader.now) c.in-BeginObject.is) (omega arith) in
    err_gives c.pass_members.result _ _ (λ none. object_next ∙ ap (parse_map object) (none no_members)) c.pass_members.ensures.refused
