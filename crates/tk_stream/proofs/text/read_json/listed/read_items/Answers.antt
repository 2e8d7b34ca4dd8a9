use Rattle.std.proofs.Common.{◌≡◌, ◌<◌, length, Some, None, sym, ap, ◌∙◌, arith}
use Rattle.json.specs.Json.{parse_map, after_end_array}
use Rattle.tk_json.specs.Values.{value_read, items_read}
use Rattle.tk_json.proofs.Steps.{item_refused}
use Rattle.tk_stream.proofs.Listing.{left, listed_more, not_listed, not_ended, none_listed, listed_all}
use Rattle.tk_stream.proofs.text.read_json.listed.read_items.Goals as goal

pub returns-in_err-item-clause-refused : goal.returns-in_err-item-clause-refused
returns-in_err-item-clause-refused g c = λ refused.
    let l = c.items in
    let going : (after_end_array l.reader ≡ None) × (c.take_end_array.new.self ≡ l.reader) = grind arith in
    let none = item_refused c.args.depth l.reader going.0 (rw (← going.1) (c.read_item.ensures.refused (grind arith))) in
    none_listed _ (left g.T.Shaped.shape l.found.items) _ _ l.invariant.same none

pub returns-in_err-pass_items-clause-refused : goal.returns-in_err-pass_items-clause-refused
returns-in_err-pass_items-clause-refused g c = λ _.
    let l = c.items in
    let shape = g.T.Shaped.shape in
    let going : (after_end_array l.reader ≡ None) × (c.take_end_array.new.self ≡ l.reader) = grind arith in
    let other : parse_map shape (value_read c.args.depth l.reader) ≡ Some (None, c.read_item.new.reader) = rw (← going.1, ← c.in_default.is) c.in_ok-item.ensures.read in
    let none = not_ended shape c.args.depth l.reader c.read_item.new.reader None going.0 other c.in_err-pass_items.ensures.refused in
    none_listed _ (left shape l.found.items) _ _ l.invariant.same none

pub returns-in_default-clause-read : goal.returns-in_default-clause-read
returns-in_default-clause-read g c =
    let l = c.items in
    let shape = g.T.Shaped.shape in
    let going : (after_end_array l.reader ≡ None) × (c.take_end_array.new.self ≡ l.reader) = grind arith in
    let other : parse_map shape (value_read c.args.depth l.reader) ≡ Some (None, c.read_item.new.reader) = rw (← going.1, ← c.in_default.is) c.in_ok-item.ensures.read in
    l.invariant.same ∙ not_listed shape l.found.items c.args.depth l.reader c.read_item.new.reader c.pass_items.new.reader going.0 other c.in_ok-pass_items.ensures.passed

pub items-preserved : goal.items-preserved
items-preserved g c =
    let l = c.items in
    let shape = g.T.Shaped.shape in
    let going : (after_end_array l.reader ≡ None) × (c.take_end_array.new.self ≡ l.reader) = grind arith in
    let less : length c.read_item.new.reader < length l.reader = rw (← going.1) c.in_ok-item.ensures.shorter in
    let one : parse_map shape (value_read c.args.depth l.reader) ≡ Some (Some c.in-Some.item, c.read_item.new.reader) = rw (← going.1, ← c.in-Some.is) c.in_ok-item.ensures.read in
    record {
      same = l.invariant.same ∙ listed_more shape l.found.items c.args.depth l.reader c.read_item.new.reader c.in-Some.item going.0 one
          ∙ ap (λ xs. parse_map (left shape xs) (items_read c.args.depth c.read_item.new.reader)) (sym c.in_ok-push.ensures.items);
      fewer = omega (arith, l.invariant.fewer, less);
    }

pub returns-clause-read : goal.returns-clause-read
returns-clause-read g c =
    let l = c.items in
    l.invariant.same ∙ listed_all g.T.Shaped.shape l.found.items c.args.depth l.reader c.take_end_array.new.self (grind arith)
