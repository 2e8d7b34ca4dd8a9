-- A resource's row is read back from its words.
use Rattle.std.proofs.Common.{◌≡◌, ℕ, ◌+◌, ◌*◌, ◌/◌, ◌%◌, ◌^◌, ◌≤◌, Bool, true, false, cond, List, [], ◌∷◌, ◌++◌, length, get_or, take, Some, None, refl, arith}
use Rattle.std.specs.Prelude.{is_some, ◌==◌, map, slice_get, replicate}
use Rattle.std.proofs.lemmas.Bool.Decides.{nat_tests}
use Rattle.std.proofs.lemmas.List.{length-append, length-map, length-replicate}
use Rattle.tk_core.specs.Words.{number_of_bits, word_of}
use Rattle.tk_core.specs.AttrWords.{is_bool, is_signed, fit_words, attr_words}
use Rattle.tk_core.specs.ResourceWords.{flags_of, words_of}
use Rattle.tk_core.specs.Laws.WordsReadBack.{moment}
use Rattle.tk_core.specs.Laws.AttrReadBack.{word_or_zero, six_words, six_bits, six_from, six_back}
use Rattle.tk_core.specs.declared.resource.row.ResourceRow.{ResourceRow}

-- the four parts of the flags
parts : (present : Bool) (n bools signs : ℕ) → n ≤ 6 → bools ≤ 63 → let flags = cond present 1 0 + (2 ^ 8 * n + 2 ^ 16 * bools + 2 ^ 24 * signs) in ((flags % 2 == 1) ≡ present) × (flags / 256 % 8 ≡ n) × (flags / 65536 % 256 ≡ bools) × (flags / 16777216 ≡ signs)
parts true n bools signs le few = (grind (arith, nat_tests), omega arith, omega arith, omega arith)
parts false n bools signs le few = (grind (arith, nat_tests), omega arith, omega arith, omega arith)

-- the row that sixteen words may be those of
abbrev pub read_from : List ℕ → ResourceRow
read_from w = record {
  created = get_or w 1 0;
  dropped = cond (get_or w 0 0 % 2 == 1) (Some (get_or w 2 0)) None;
  handles = get_or w 3 0;
  attrs = take (get_or w 0 0 / 256 % 8) (six_from (get_or w 0 0 / 65536 % 256) (get_or w 0 0 / 16777216) (get_or w 4 0) (get_or w 5 0) (get_or w 6 0) (get_or w 7 0) (get_or w 8 0) (get_or w 9 0));
}

-- sixteen words are those of a row that a program can hold
pub record IsHeld (row : ResourceRow) : Type 0 where
  pub fit : fit_words row.attrs ≡ true
  pub few : length row.attrs ≤ 6

pub is_held : (row : ResourceRow) → length (words_of row) ≡ 16 → IsHeld row
unfolding words_of
is_held row e = go (fit_words row.attrs) refl e
  where
    go : (kept : Bool) → fit_words row.attrs ≡ kept → length (cond kept (flags_of row ∷ row.created ∷ word_of row.dropped ∷ row.handles ∷ (attr_words row.attrs ++ replicate 6 0)) []) ≡ 16 → IsHeld row
    go true kept long = record { fit = kept; few = omega (arith, simp (length-append, length-map, length-replicate) at long) }
    go false kept long = absurd (omega arith)

pub words_are : (row : ResourceRow) → IsHeld row → words_of row
    ≡ flags_of row ∷ row.created ∷ word_of row.dropped ∷ row.handles
    ∷ word_or_zero (slice_get row.attrs 0) ∷ word_or_zero (slice_get row.attrs 1) ∷ word_or_zero (slice_get row.attrs 2) ∷ word_or_zero (slice_get row.attrs 3) ∷ word_or_zero (slice_get row.attrs 4) ∷ word_or_zero (slice_get row.attrs 5)
    ∷ 0 ∷ 0 ∷ 0 ∷ 0 ∷ 0 ∷ 0 ∷ []
unfolding words_of
words_are row held =
    let six = six_words row.attrs held.few in
    rw (held.fit, six.0) refl

pub read_back : (row : ResourceRow) → IsHeld row → read_from (words_of row) ≡ row
read_back row held =
    let p = parts (is_some row.dropped) (length row.attrs) (number_of_bits (map is_bool row.attrs)) (number_of_bits (map is_signed row.attrs)) held.few (six_bits is_bool row.attrs held.few) in
    let words = words_are row held in
    let six = six_back row.attrs held.few held.fit in
    rw (words, p.0, p.1, p.2, p.3, moment row.dropped, six) refl
