use Rattle.std.proofs.Common.{◌≡◌, ◌+◌, ◌≤◌, ℕ, List, [], ◌∷◌, ◌++◌, drop, length, sym, ap, ◌∙◌, arith}
use Rattle.std.specs.Prelude.{map, false}
use Rattle.std.proofs.lemmas.List.{drop_all}
use Rattle.serde_json.specs.View.{items_of}
use Rattle.serde_json.specs.Written.{items_text}
use Rattle.tk_stream.specs.Pieces.{Takes}
use Rattle.tk_stream.specs.Spelling.{filled_data}
use Rattle.tk_stream.specs.Times.{filled_from}
use Rattle.tk_stream.proofs.Pieces.{taken_from}
use Rattle.tk_stream.proofs.TimesLemmas.{has_some}
use Rattle.tk_stream.proofs.text.write.times.buckets_before.Goals as goal

first_put : (old new : List ℕ) (at start : ℕ) (counts : List ℕ) → length counts ≤ 14 → start + 1 ≡ at → Takes (drop start new) (93 ∷ []) (drop at old)
    → (false ≡ has_some (filled_from 14 (drop 14 counts))) × Takes (drop start new) (items_text false (items_of (map filled_data (filled_from 14 (drop 14 counts))))) (drop at new)
first_put old new at start counts past place text = (
  sym (ap (λ xs. has_some (filled_from 14 xs)) (drop_all 14 counts past)),
  record {
    is = text.is ∙ ap (λ xs. 93 ∷ xs) (sym (taken_from start at (93 ∷ []) old new place text))
        ∙ sym (ap (λ xs. items_text false (items_of (map filled_data (filled_from 14 xs))) ++ drop at new) (drop_all 14 counts past));
  },
)

pub loop-left-init : goal.loop-left-init
loop-left-init g c =
    let first = first_put c.args.bytes.now c.text_before-start.new.bytes c.args.at c.text_before-start.result c.args.counts.now (omega (arith, c.told-counts)) c.text_before-start.ensures.place c.text_before-start.ensures.text in
    (omega arith, omega (arith, c.text_before-start.ensures.place, c.requires), omega (arith, c.text_before-start.ensures.place), first.0, first.1)

all_put : (old first new : List ℕ) (at start left : ℕ) (counts : List ℕ) → left ≤ 0 → drop at first ≡ drop at old
    → Takes (drop start new) (items_text false (items_of (map filled_data (filled_from left (drop left counts))))) (drop at first)
    → Takes (drop start new) (items_text false (items_of (map filled_data (filled_from 0 counts)))) (drop at old)
all_put old first new at start left counts none stays text =
    let zero : left ≡ 0 = omega (arith, none) in
    record {
      is = text.is ∙ ap (λ xs. items_text false (items_of (map filled_data (filled_from left (drop left counts)))) ++ xs) stays
          ∙ ap (λ n. items_text false (items_of (map filled_data (filled_from n (drop n counts)))) ++ drop at old) zero;
    }

pub returns-clause-text : goal.returns-clause-text
returns-clause-text g c =
    let stays = taken_from c.text_before-start.result c.args.at (93 ∷ []) c.args.bytes.now c.text_before-start.new.bytes c.text_before-start.ensures.place c.text_before-start.ensures.text in
    all_put c.args.bytes.now c.text_before-start.new.bytes c.loop-left.bytes c.args.at c.loop-left.start c.loop-left.left c.args.counts.now
    c.loop-left-test.false stays c.loop-left.invariant.4
