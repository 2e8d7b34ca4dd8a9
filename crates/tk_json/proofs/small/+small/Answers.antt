use Rattle.std.proofs.Common.{◌≡◌, suc, ◌-◌, ◌<◌, ◌≤◌, [], ◌∷◌, ◌++◌, length, map, Some, None, string_bytes, sym, ap, ap₂, refl, ◌∙◌, arith, rules}
use Rattle.std.proofs.lemmas.List.{map-append, length-map}
use Rattle.json.specs.Json.{parse_map, after_end_array, read_key, value}
use Rattle.json.specs.Reads.{token_of}
use Rattle.json.proofs.Grammar.{read_key-shorter, value_is}
use Rattle.serde_json.specs.Data.{null, boolean, number, string, array, object, put, no_members}
use Rattle.serde_json.specs.Events.{members_len}
use Rattle.serde_json.specs.Read.{of_json, converted}
use Rattle.serde_json.specs.View.{view, number_view, members_view}
use Rattle.serde_json.specs.declared.value.Value.{String, Number, Bool, Null, the_lemmas}
use Rattle.serde_json.proofs.Views.{view-Array, view-Object, members_view-insert_entry, members_len-members_view}
use Rattle.tk_json.specs.Small.{small, small_read, small_members, object_within}
use Rattle.tk_json.specs.Values.{value_read, items_read}
use Rattle.tk_json.proofs.Kept.{small_members_len}
use Rattle.tk_json.proofs.Steps.{nothing_read, item_refused, items_over, member_read, member_refused, members_refused, members_over, array_read, array_deep, object_read, object_deep, text_read, flag_read, null_read, number_read, number_refused, ok_holds}
use Rattle.tk_json.proofs.Growing.{mapped_none, mapped_some, kept_array, item_turn, narrow_array, wide_array, narrow_object, wide_object, small_put, seen_read, array_seen, object_seen, array_left, object_left}
use Rattle.tk_json.proofs.small.+small.Goals as goal

pub read_small-returns-in_default-clause-refused : goal.read_small-returns-in_default-clause-refused
read_small-returns-in_default-clause-refused t c = λ _.
    let empty : c.args.reader.now ≡ [] = grind arith in
    ap (value_read c.args.depth) empty ∙ nothing_read c.args.depth

pub read_items-items-preserved : goal.read_items-items-preserved
read_items-items-preserved t c =
    let l = c.items in
    let going : (after_end_array l.reader ≡ None) × (c.take_end_array.new.self ≡ l.reader) = grind arith in
    let done = c.in_ok-item.ensures in
    let v = c.in_ok-item.item in
    let less : length c.read_small.new.reader < length l.reader = rw (← going.1) done.shorter in
    let grown : map view c.push.new.self.items ≡ map view l.found.items ++ view v ∷ [] = ap (map view) c.in_ok-push.ensures.items ∙ map-append view l.found.items (v ∷ []) in
    let turn = item_turn c.args.levels c.args.depth (map view l.found.items) l.reader c.read_small.new.reader (view v) going.0 (rw (← going.1) done.read) in
    record {
      same = l.invariant.same ∙ turn ∙ ap (λ vs. parse_map (kept_array c.args.levels vs) (items_read c.args.depth c.read_small.new.reader)) (sym grown);
      narrow = omega arith;
      fewer = omega (arith, l.invariant.fewer, less);
    }

pub read_items-returns-in_err-item-clause-refused : goal.read_items-returns-in_err-item-clause-refused
read_items-returns-in_err-item-clause-refused t c = λ refused.
    let l = c.items in
    let going : (after_end_array l.reader ≡ None) × (c.take_end_array.new.self ≡ l.reader) = grind arith in
    let none = item_refused c.args.depth l.reader going.0 (rw (← going.1) (c.read_small.ensures.refused (grind arith))) in
    mapped_none _ _ (l.invariant.same ∙ ap (parse_map (kept_array c.args.levels (map view l.found.items))) none)

pub read_items-returns-in_err-pass_items-clause-refused : goal.read_items-returns-in_err-pass_items-clause-refused
read_items-returns-in_err-pass_items-clause-refused t c = λ _.
    let l = c.items in
    let going : (after_end_array l.reader ≡ None) × (c.take_end_array.new.self ≡ l.reader) = grind arith in
    let done = c.in_ok-item.ensures in
    let v = c.in_ok-item.item in
    let turn = item_turn c.args.levels c.args.depth (map view l.found.items) l.reader c.read_small.new.reader (view v) going.0 (rw (← going.1) done.read) in
    mapped_none _ _ (l.invariant.same ∙ turn ∙ ap (parse_map (kept_array c.args.levels (map view l.found.items ++ view v ∷ []))) c.in_err-pass_items.ensures.refused)

pub read_items-returns-then-len-gt-WIDEST_ARRAY-clause-read : goal.read_items-returns-then-len-gt-WIDEST_ARRAY-clause-read
read_items-returns-then-len-gt-WIDEST_ARRAY-clause-read t c =
    let l = c.items in
    let going : (after_end_array l.reader ≡ None) × (c.take_end_array.new.self ≡ l.reader) = grind arith in
    let done = c.in_ok-item.ensures in
    let v = c.in_ok-item.item in
    let r = c.read_small.new.reader in
    let found = map view l.found.items ++ view v ∷ [] in
    let grown : map view c.push.new.self.items ≡ found = ap (map view) c.in_ok-push.ensures.items ∙ map-append view l.found.items (v ∷ []) in
    let many : length found ≡ length c.push.new.self.items = ap length (sym grown) ∙ length-map c.push.new.self.items view in
    let wide : 14 < length c.push.new.self.items = omega arith in
    let turn = item_turn c.args.levels c.args.depth (map view l.found.items) l.reader r (view v) going.0 (rw (← going.1) done.read) in
    l.invariant.same ∙ turn ∙ wide_array c.args.levels found (items_read c.args.depth r) c.pass_items.new.reader (rw many wide) c.in_ok-pass_items.ensures.passed
    ∙ ap (λ d. Some (d, c.pass_items.new.reader)) (sym c.nothing.ensures)

pub read_items-returns-clause-read : goal.read_items-returns-clause-read
read_items-returns-clause-read t c =
    let l = c.items in
    let r = c.take_end_array.new.self in
    let over = items_over c.args.depth l.reader r (grind arith) in
    let few : length (map view l.found.items) ≤ 14 = rw (length-map l.found.items view) l.invariant.narrow in
    l.invariant.same ∙ ap (parse_map (kept_array c.args.levels (map view l.found.items))) over
    ∙ ap (λ d. Some (d, r)) (narrow_array c.args.levels (map view l.found.items) few ∙ sym (view-Array l.found))

pub read_members-members-init : goal.read_members-members-init
read_members-members-init t c =
    let empty = c.new-found.ensures.empty in
    record { same = (no_members, refl, ap members_view empty); narrow = rw empty (omega arith); fewer = omega arith }

pub read_members-returns-in_err-name-clause-refused : goal.read_members-returns-in_err-name-clause-refused
read_members-returns-in_err-name-clause-refused t c = λ _.
    let now = c.members.invariant.same in
    now.1 ∙ members_refused now.0 c.args.depth c.members.reader c.in_err-name.ensures.value

pub read_members-returns-in_err-member-clause-refused : goal.read_members-returns-in_err-member-clause-refused
read_members-returns-in_err-member-clause-refused t c = λ refused.
    let l = c.members in
    let now = l.invariant.same in
    let k = c.in-Some.name.now in
    let s = c.next_key.new.self in
    let named : read_key l.reader ≡ Some (Some k, s) = grind arith in
    now.1 ∙ member_refused now.0 c.args.depth l.reader k s named (c.read_small.ensures.refused (grind arith))

pub read_members-returns-in_err-pass_members-clause-refused : goal.read_members-returns-in_err-pass_members-clause-refused
read_members-returns-in_err-pass_members-clause-refused t c = λ _.
    let l = c.members in
    let now = l.invariant.same in
    let k = c.in-Some.name.now in
    let s = c.next_key.new.self in
    let named : read_key l.reader ≡ Some (Some k, s) = grind arith in
    let d = mapped_some (λ x. small x c.args.levels) (value_read c.args.depth s) (view c.in_ok-member.member) c.read_small.new.reader c.in_ok-member.ensures.read in
    now.1 ∙ member_read now.0 c.args.depth l.reader k s c.read_small.new.reader d.0 named d.1 ∙ c.in_err-pass_members.ensures.refused (put k d.0 now.0)

pub read_members-members-preserved : goal.read_members-members-preserved
read_members-members-preserved t c =
    let l = c.members in
    let now = l.invariant.same in
    let k = c.in-Some.name.now in
    let s = c.next_key.new.self in
    let named : read_key l.reader ≡ Some (Some k, s) = grind arith in
    let v = c.in_ok-member.member in
    let d = mapped_some (λ x. small x c.args.levels) (value_read c.args.depth s) (view v) c.read_small.new.reader c.in_ok-member.ensures.read in
    let less = read_key-shorter l.reader (Some k) s named in
    let lesser = c.in_ok-member.ensures.shorter in
    let copied : string_bytes c.in_ok-key.key ≡ k = search rules in
    let inserted : members_view c.insert.new.self.entries ≡ small_members (put k d.0 now.0) c.args.levels =
    ap members_view c.in_ok-insert.ensures.entries ∙ members_view-insert_entry l.found.entries c.in_ok-key.key v ∙ ap (λ name. put name (view v) (members_view l.found.entries)) copied
    ∙ ap₂ (put k) d.2 now.2 ∙ sym (small_put c.args.levels k d.0 now.0) in
    record {
      same = (put k d.0 now.0, now.1 ∙ member_read now.0 c.args.depth l.reader k s c.read_small.new.reader d.0 named d.1, inserted);
      narrow = omega arith;
      fewer = omega (arith, l.invariant.fewer, less, lesser);
    }

pub read_members-returns-then-len-gt-WIDEST_OBJECT-clause-read : goal.read_members-returns-then-len-gt-WIDEST_OBJECT-clause-read
read_members-returns-then-len-gt-WIDEST_OBJECT-clause-read t c =
    let l = c.members in
    let now = l.invariant.same in
    let k = c.in-Some.name.now in
    let s = c.next_key.new.self in
    let named : read_key l.reader ≡ Some (Some k, s) = grind arith in
    let v = c.in_ok-member.member in
    let r = c.read_small.new.reader in
    let d = mapped_some (λ x. small x c.args.levels) (value_read c.args.depth s) (view v) r c.in_ok-member.ensures.read in
    let held = put k d.0 now.0 in
    let copied : string_bytes c.in_ok-key.key ≡ k = search rules in
    let inserted : members_view c.insert.new.self.entries ≡ small_members held c.args.levels =
    ap members_view c.in_ok-insert.ensures.entries ∙ members_view-insert_entry l.found.entries c.in_ok-key.key v ∙ ap (λ name. put name (view v) (members_view l.found.entries)) copied
    ∙ ap₂ (put k) d.2 now.2 ∙ sym (small_put c.args.levels k d.0 now.0) in
    let many : members_len held ≡ length c.insert.new.self.entries =
    sym (small_members_len held c.args.levels) ∙ ap members_len (sym inserted) ∙ members_len-members_view c.insert.new.self.entries in
    let wide : 17 < length c.insert.new.self.entries = omega arith in
    ap (parse_map (λ ms. object_within (members_len ms) (small_members ms c.args.levels))) (now.1 ∙ member_read now.0 c.args.depth l.reader k s r d.0 named d.1)
    ∙ wide_object c.args.levels held c.args.depth r c.pass_members.new.reader (rw many wide) (c.in_ok-pass_members.ensures.passed held)
    ∙ ap (λ x. Some (x, c.pass_members.new.reader)) (sym c.nothing.ensures)

pub read_members-returns-clause-read : goal.read_members-returns-clause-read
read_members-returns-clause-read t c =
    let l = c.members in
    let now = l.invariant.same in
    let over : read_key l.reader ≡ Some (None, c.next_key.new.self) = grind arith in
    let many : members_len now.0 ≡ length l.found.entries =
    sym (small_members_len now.0 c.args.levels) ∙ ap members_len (sym now.2) ∙ members_len-members_view l.found.entries in
    ap (parse_map (λ ms. object_within (members_len ms) (small_members ms c.args.levels))) (now.1 ∙ members_over now.0 c.args.depth l.reader c.next_key.new.self over)
    ∙ ap (λ x. Some (x, c.next_key.new.self)) (narrow_object c.args.levels now.0 (rw many l.invariant.narrow) ∙ ap object (sym now.2) ∙ sym (view-Object l.found))

pub read_small-returns-then-depth-eq0-clause-refused : goal.read_small-returns-then-depth-eq0-clause-refused
read_small-returns-then-depth-eq0-clause-refused t c = λ _.
    let first : c.args.reader.now ≡ token_of c.in-Some.token ∷ c.next.new.self = grind arith in
    array_deep c.args.depth _ _ (first ∙ ap (λ k. token_of k ∷ c.next.new.self) c.in-BeginArray.is) (omega arith)

pub read_small-returns-then-depth-eq0-2-clause-refused : goal.read_small-returns-then-depth-eq0-2-clause-refused
read_small-returns-then-depth-eq0-2-clause-refused t c = λ _.
    let first : c.args.reader.now ≡ token_of c.in-Some.token ∷ c.next.new.self = grind arith in
    object_deep c.args.depth _ _ (first ∙ ap (λ k. token_of k ∷ c.next.new.self) c.in-BeginObject.is) (omega arith)

pub read_small-returns-in_err-pass_items-in-BeginArray-clause-refused : goal.read_small-returns-in_err-pass_items-in-BeginArray-clause-refused
read_small-returns-in_err-pass_items-in-BeginArray-clause-refused t c = λ _.
    let first : c.args.reader.now ≡ token_of c.in-Some.token ∷ c.next.new.self = grind arith in
    array_read c.args.depth _ _ (first ∙ ap (λ k. token_of k ∷ c.next.new.self) c.in-BeginArray.is) (omega arith) ∙ ap (parse_map array) c.in_err-pass_items-in-BeginArray.ensures.refused

pub read_small-returns-in_err-pass_members-in-BeginObject-clause-refused : goal.read_small-returns-in_err-pass_members-in-BeginObject-clause-refused
read_small-returns-in_err-pass_members-in-BeginObject-clause-refused t c = λ _.
    let first : c.args.reader.now ≡ token_of c.in-Some.token ∷ c.next.new.self = grind arith in
    object_read c.args.depth _ _ (first ∙ ap (λ k. token_of k ∷ c.next.new.self) c.in-BeginObject.is) (omega arith) ∙ ap (parse_map object) (c.in_err-pass_members-in-BeginObject.ensures.refused no_members)

pub read_small-returns-then-levels-eq0-clause-read : goal.read_small-returns-then-levels-eq0-clause-read
read_small-returns-then-levels-eq0-clause-read t c =
    let first : c.args.reader.now ≡ token_of c.in-Some.token ∷ c.next.new.self = grind arith in
    let none : c.args.levels ≡ 0 = omega arith in
    let left = array_left c.args.depth _ _ c.pass_items.new.reader (first ∙ ap (λ k. token_of k ∷ c.next.new.self) c.in-BeginArray.is) (omega arith) c.in_ok-pass_items-in-BeginArray.ensures.passed in
    rw (none, c.nothing.ensures) left

pub read_small-returns-then-levels-eq0-2-clause-read : goal.read_small-returns-then-levels-eq0-2-clause-read
read_small-returns-then-levels-eq0-2-clause-read t c =
    let first : c.args.reader.now ≡ token_of c.in-Some.token ∷ c.next.new.self = grind arith in
    let none : c.args.levels ≡ 0 = omega arith in
    let left = object_left c.args.depth _ _ c.pass_members.new.reader (first ∙ ap (λ k. token_of k ∷ c.next.new.self) c.in-BeginObject.is) (omega arith) (c.in_ok-pass_members-in-BeginObject.ensures.passed no_members) in
    rw (none, c.nothing-then-levels-eq0-2.ensures) left

pub read_small-returns-in_ok-from_str-in-String-clause-read : goal.read_small-returns-in_ok-from_str-in-String-clause-read
read_small-returns-in_ok-from_str-in-String-clause-read t c =
    let first : c.args.reader.now ≡ token_of c.in-Some.token ∷ c.next.new.self = grind arith in
    let seen : view (String c.in_ok-from_str-in-String.field-0) ≡ string c.in-String.text.now = search (rules, the_lemmas) in
    seen_read c.args.levels c.args.depth _ _ _ _ (text_read c.args.depth _ _ _ (first ∙ ap (λ k. token_of k ∷ c.next.new.self) c.in-String.is)) seen

pub read_small-returns-in-Some-number_in-clause-read : goal.read_small-returns-in-Some-number_in-clause-read
read_small-returns-in-Some-number_in-clause-read t c =
    let first : c.args.reader.now ≡ token_of c.in-Some.token ∷ c.next.new.self = grind arith in
    let seen : view (Number c.in-Some-number_in.number) ≡ number (number_view c.in-Some-number_in.number) = search (rules, the_lemmas) in
    seen_read c.args.levels c.args.depth _ _ _ _ (number_read c.args.depth _ _ _ (number_view c.in-Some-number_in.number) (first ∙ ap (λ k. token_of k ∷ c.next.new.self) c.in-Number.is) c.in-Some-number_in.ensures) seen

pub read_small-returns-in-None-clause-refused : goal.read_small-returns-in-None-clause-refused
read_small-returns-in-None-clause-refused t c = λ _.
    let first : c.args.reader.now ≡ token_of c.in-Some.token ∷ c.next.new.self = grind arith in
    number_refused c.args.depth _ _ _ (first ∙ ap (λ k. token_of k ∷ c.next.new.self) c.in-Number.is) c.in-None.ensures

pub read_small-returns-in-Bool-clause-read : goal.read_small-returns-in-Bool-clause-read
read_small-returns-in-Bool-clause-read t c =
    let first : c.args.reader.now ≡ token_of c.in-Some.token ∷ c.next.new.self = grind arith in
    let seen : view (Bool c.in-Bool.flag) ≡ boolean c.in-Bool.flag = search (rules, the_lemmas) in
    seen_read c.args.levels c.args.depth _ _ _ _ (flag_read c.args.depth _ _ _ (first ∙ ap (λ k. token_of k ∷ c.next.new.self) c.in-Bool.is)) seen

pub read_small-returns-in-Null-clause-read : goal.read_small-returns-in-Null-clause-read
read_small-returns-in-Null-clause-read t c =
    let first : c.args.reader.now ≡ token_of c.in-Some.token ∷ c.next.new.self = grind arith in
    let seen : view Null ≡ null = search (rules, the_lemmas) in
    seen_read c.args.levels c.args.depth _ _ _ _ (null_read c.args.depth _ _ (first ∙ ap (λ k. token_of k ∷ c.next.new.self) c.in-Null.is)) seen

pub read_small-returns-in-EndObject-clause-refused : goal.read_small-returns-in-EndObject-clause-refused
read_small-returns-in-EndObject-clause-refused t c = λ _.
    let first : c.args.reader.now ≡ token_of c.in-Some.token ∷ c.next.new.self = grind arith in
    let none : value c.args.depth c.args.reader.now ≡ None = rw (value_is c.args.depth c.args.reader.now, first) (grind arith) in
    ap (converted of_json) none

pub read_small-returns-else-levels-eq0-clause-read : goal.read_small-returns-else-levels-eq0-clause-read
read_small-returns-else-levels-eq0-clause-read t c =
    let first : c.args.reader.now ≡ token_of c.in-Some.token ∷ c.next.new.self = grind arith in
    let deep : c.args.levels ≡ suc (c.args.levels - 1) = omega arith in
    let seen = array_seen (c.args.levels - 1) c.args.depth _ _ (first ∙ ap (λ k. token_of k ∷ c.next.new.self) c.in-BeginArray.is) (omega arith) in
    ok_holds c.read_items.result _ _ (λ v e. ap (λ n. small_read n c.args.depth c.args.reader.now) deep ∙ seen ∙ e) c.read_items.ensures.read

pub read_small-returns-else-levels-eq0-2-clause-read : goal.read_small-returns-else-levels-eq0-2-clause-read
read_small-returns-else-levels-eq0-2-clause-read t c =
    let first : c.args.reader.now ≡ token_of c.in-Some.token ∷ c.next.new.self = grind arith in
    let deep : c.args.levels ≡ suc (c.args.levels - 1) = omega arith in
    let seen = object_seen (c.args.levels - 1) c.args.depth _ _ (first ∙ ap (λ k. token_of k ∷ c.next.new.self) c.in-BeginObject.is) (omega arith) in
    ok_holds c.read_members.result _ _ (λ v e. ap (λ n. small_read n c.args.depth c.args.reader.now) deep ∙ seen ∙ e) c.read_members.ensures.read

pub read_small-returns-else-levels-eq0-clause-refused : goal.read_small-returns-else-levels-eq0-clause-refused
read_small-returns-else-levels-eq0-clause-refused t c = λ refused.
    let first : c.args.reader.now ≡ token_of c.in-Some.token ∷ c.next.new.self = grind arith in
    array_read c.args.depth _ _ (first ∙ ap (λ k. token_of k ∷ c.next.new.self) c.in-BeginArray.is) (omega arith) ∙ ap (parse_map array) (c.read_items.ensures.refused refused)

pub read_small-returns-else-levels-eq0-2-clause-refused : goal.read_small-returns-else-levels-eq0-2-clause-refused
read_small-returns-else-levels-eq0-2-clause-refused t c = λ refused.
    let first : c.args.reader.now ≡ token_of c.in-Some.token ∷ c.next.new.self = grind arith in
    object_read c.args.depth _ _ (first ∙ ap (λ k. token_of k ∷ c.next.new.self) c.in-BeginObject.is) (omega arith) ∙ ap (parse_map object) (c.read_members.ensures.refused refused)
