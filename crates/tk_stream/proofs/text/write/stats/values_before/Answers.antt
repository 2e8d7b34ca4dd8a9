use Rattle.std.proofs.Common.{◌≡◌, ◌+◌, ◌-◌, ◌≤◌, ◌<◌, ℕ, List, [], ◌∷◌, ◌++◌, true, Some, drop, length, slice_get, sym, ap, ◌∙◌, append_assoc, arith}
use Rattle.std.specs.Prelude.{map, nat_lt, false}
use Rattle.std.proofs.lemmas.Bool.{lt-ltb}
use Rattle.std.proofs.lemmas.List.{drop_all, drop_more}
use Rattle.std.proofs.lemmas.Option.{slice_get_within, get_or_from_slice_get}
use Rattle.serde_json.specs.View.{items_of}
use Rattle.serde_json.specs.Written.{compact_text, items_text}
use Rattle.tk_ids.specs.declared.attr.AttrValue.{AttrValue}
use Rattle.tk_stream.specs.Pieces.{Takes}
use Rattle.tk_stream.specs.Spelling.{value_data}
use Rattle.tk_stream.proofs.Pieces.{taken_from}
use Rattle.tk_stream.proofs.text.write.stats.values_before.Goals as goal

first_put : (old new : List ℕ) (at start left : ℕ) (values : List AttrValue) → length values ≤ left → start + 1 ≡ at → Takes (drop start new) (93 ∷ []) (drop at old)
    → Takes (drop start new) (items_text (nat_lt 0 left) (items_of (map value_data (drop left values)))) (drop at new)
first_put old new at start left values past place text =
    record {
      is = text.is ∙ ap (λ xs. 93 ∷ xs) (sym (taken_from start at (93 ∷ []) old new place text))
          ∙ sym (ap (λ xs. items_text (nat_lt 0 left) (items_of (map value_data xs)) ++ drop at new) (drop_all left values past));
    }

pub loop-left-init : goal.loop-left-init
loop-left-init g c =
    (omega (arith, c.len-left.ensures.length), omega arith, omega (arith, c.len-left.ensures.length), first_put c.args.bytes.now c.text_before-start.new.bytes c.args.at c.text_before-start.result c.len-left.result c.args.values.now (omega (arith, c.len-left.ensures.length)) c.text_before-start.ensures.place c.text_before-start.ensures.text)

-- a value and the comma before it, where others come before
value_put : {bytes middle after rest : List ℕ} (left : ℕ) (value : AttrValue) (values : List AttrValue) → 0 < left - 1 → slice_get values (left - 1) ≡ Some value
    → Takes bytes (44 ∷ []) middle → Takes middle (compact_text (value_data value)) after → Takes after (items_text (nat_lt 0 left) (items_of (map value_data (drop left values)))) rest
    → Takes bytes (items_text (nat_lt 0 (left - 1)) (items_of (map value_data (drop (left - 1) values)))) rest
value_put {bytes} {middle} {after} {rest} left value values more is comma text others =
    let next : left - 1 + 1 ≡ left = omega arith in
    let split : drop (left - 1) values ≡ value ∷ drop left values =
    drop_more values (left - 1) value (slice_get_within values (left - 1) value is)
    ∙ ap (λ x. x ∷ drop (left - 1 + 1) values) (get_or_from_slice_get values (left - 1) value value is)
    ∙ ap (λ n. value ∷ drop n values) next in
    record {
      is = comma.is ∙ ap (λ xs. 44 ∷ xs) (text.is ∙ ap (λ xs. compact_text (value_data value) ++ xs) (others.is
          ∙ ap (λ b. items_text b (items_of (map value_data (drop left values))) ++ rest) (lt-ltb 0 left (omega arith)))
          ∙ sym (append_assoc (compact_text (value_data value)) (items_text true (items_of (map value_data (drop left values)))) rest))
          ∙ sym (ap (λ b. items_text b (items_of (map value_data (drop (left - 1) values))) ++ rest) (lt-ltb 0 (left - 1) more) ∙ ap (λ vs. items_text true (items_of (map value_data vs)) ++ rest) split);
    }

pub loop-left-preserved-then-left-gt0 : goal.loop-left-preserved-then-left-gt0
loop-left-preserved-then-left-gt0 g c = (
  omega arith,
  omega (arith, c.text_before-start-then-left-gt0.ensures.place, c.value_before-start.ensures.place, c.loop-left.invariant),
  omega (arith, c.text_before-start-then-left-gt0.ensures.place, c.value_before-start.ensures.place, c.loop-left.invariant),
  value_put c.loop-left.left c.in-Some.value c.args.values.now c.if-left-gt0.true (sym c.get.ensures ∙ c.in-Some.is) c.text_before-start-then-left-gt0.ensures.text c.value_before-start.ensures.text c.loop-left.invariant.3,
)

all_put : (old first new : List ℕ) (at start left : ℕ) (values : List AttrValue) → left ≤ 0 → drop at first ≡ drop at old
    → Takes (drop start new) (items_text (nat_lt 0 left) (items_of (map value_data (drop left values)))) (drop at first)
    → Takes (drop start new) (items_text false (items_of (map value_data values))) (drop at old)
all_put old first new at start left values none stays text =
    let zero : left ≡ 0 = omega arith in
    record {
      is = text.is ∙ ap (λ xs. items_text (nat_lt 0 left) (items_of (map value_data (drop left values))) ++ xs) stays
          ∙ ap (λ n. items_text (nat_lt 0 n) (items_of (map value_data (drop n values))) ++ drop at old) zero;
    }

pub returns-clause-text : goal.returns-clause-text
returns-clause-text g c =
    let stays = taken_from c.text_before-start.result c.args.at (93 ∷ []) c.args.bytes.now c.text_before-start.new.bytes c.text_before-start.ensures.place c.text_before-start.ensures.text in
    all_put c.args.bytes.now c.text_before-start.new.bytes c.loop-left.bytes c.args.at c.loop-left.start c.loop-left.left c.args.values.now
    c.loop-left-test.false stays c.loop-left.invariant.3
