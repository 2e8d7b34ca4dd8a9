-- An async operation's row is read back from its words.
use Rattle.std.proofs.Common.{◌≡◌, ℕ, ◌+◌, ◌*◌, ◌/◌, ◌%◌, ◌^◌, ◌≤◌, Bool, true, false, cond, List, [], ◌∷◌, length, get_or, take, Option, Some, None, refl, arith}
use Rattle.std.specs.Prelude.{is_some, ◌==◌, map, slice_get, ◌&&◌}
use Rattle.std.proofs.lemmas.List.{length-append, length-map, length-replicate}
use Rattle.tk_ids.specs.Ids.{is_id}
use Rattle.tk_core.specs.Words.{number_of_bits, word_of}
use Rattle.tk_core.specs.AttrWords.{is_bool, is_signed, fit_words, attr_words}
use Rattle.tk_core.specs.OpWords.{names_task, task_word, flags_of, words_of}
use Rattle.tk_core.specs.Laws.WordsReadBack.{low_bit, high_bits, moment}
use Rattle.tk_core.specs.Laws.AttrReadBack.{word_or_zero, six_words, six_bits, six_from, six_back}
use Rattle.tk_core.specs.declared.op.row.OpRow.{OpRow}

-- five bits, then the attributes' bits, by halves
by_halves : (a b c d e n bools signs : ℕ) → a + 2 * (b + 2 * (c + 2 * (d + 2 * (e + 2 * 0)))) + (2 ^ 8 * n + 2 ^ 16 * bools + 2 ^ 24 * signs) ≡ a + 2 * (b + 2 * (c + 2 * (d + 2 * (e + 2 * (2 ^ 3 * n + 2 ^ 11 * bools + 2 ^ 19 * signs)))))
by_halves a b c d e n bools signs = omega arith

bit_le : (b : Bool) → cond b 1 0 ≤ 1
bit_le true = omega arith
bit_le false = omega arith

-- how many attributes there are, and the bits of their kinds
number : (a b c d e n bools signs : ℕ) → a ≤ 1 → b ≤ 1 → c ≤ 1 → d ≤ 1 → e ≤ 1 → n ≤ 6 → bools ≤ 63
    → let flags = a + 2 * (b + 2 * (c + 2 * (d + 2 * (e + 2 * 0)))) + (2 ^ 8 * n + 2 ^ 16 * bools + 2 ^ 24 * signs) in (flags / 256 % 8 ≡ n) × (flags / 65536 % 256 ≡ bools) × (flags / 16777216 ≡ signs)
number a b c d e n bools signs la lb lc ld le ln few = (omega arith, omega arith, omega arith)

-- a task is read back from its word, which is an id or 0
task_back : (task : Option ℕ) → names_task task ≡ true → cond (is_id (task_word task)) (Some (task_word task)) None ≡ task
task_back None names = refl
task_back (Some id) names = rw names refl

-- the row that sixteen words may be those of
abbrev pub read_from : List ℕ → OpRow
read_from w =
    let f0 = get_or w 0 0 in
    let f1 = f0 / 2 in
    let f2 = f1 / 2 in
    let f3 = f2 / 2 in
    let f4 = f3 / 2 in
    record {
      created = get_or w 1 0;
      dropped = cond (f0 % 2 == 1) (Some (get_or w 2 0)) None;
      polls = get_or w 3 0;
      first_poll = cond (f1 % 2 == 1) (Some (get_or w 4 0)) None;
      last_started = cond (f2 % 2 == 1) (Some (get_or w 5 0)) None;
      last_ended = cond (f3 % 2 == 1) (Some (get_or w 6 0)) None;
      busy = get_or w 7 0;
      handles = get_or w 8 0;
      task = cond (is_id (get_or w 9 0)) (Some (get_or w 9 0)) None;
      polling = f4 % 2 == 1;
      attrs = take (f0 / 256 % 8) (six_from (f0 / 65536 % 256) (f0 / 16777216) (get_or w 10 0) (get_or w 11 0) (get_or w 12 0) (get_or w 13 0) (get_or w 14 0) (get_or w 15 0));
    }

-- sixteen words are those of a row that a program can hold
pub record IsHeld (row : OpRow) : Type 0 where
  pub names : names_task row.task ≡ true
  pub fit : fit_words row.attrs ≡ true
  pub few : length row.attrs ≤ 6

pub is_held : (row : OpRow) → length (words_of row) ≡ 16 → IsHeld row
unfolding words_of
is_held row e = go (names_task row.task) (fit_words row.attrs) refl refl e
  where
    go : (names kept : Bool) → names_task row.task ≡ names → fit_words row.attrs ≡ kept → length (cond (names && kept) (flags_of row ∷ row.created ∷ word_of row.dropped ∷ row.polls ∷ word_of row.first_poll ∷ word_of row.last_started ∷ word_of row.last_ended ∷ row.busy ∷ row.handles ∷ task_word row.task ∷ attr_words row.attrs) []) ≡ 16 → IsHeld row
    go true true names kept long = record { names = names; fit = kept; few = omega (arith, simp (length-append, length-map, length-replicate) at long) }
    go true false names kept long = absurd (omega arith)
    go false kept names is long = absurd (omega arith)

pub words_are : (row : OpRow) → IsHeld row → words_of row
    ≡ flags_of row ∷ row.created ∷ word_of row.dropped ∷ row.polls
    ∷ word_of row.first_poll ∷ word_of row.last_started ∷ word_of row.last_ended ∷ row.busy
    ∷ row.handles ∷ task_word row.task
    ∷ word_or_zero (slice_get row.attrs 0) ∷ word_or_zero (slice_get row.attrs 1) ∷ word_or_zero (slice_get row.attrs 2) ∷ word_or_zero (slice_get row.attrs 3) ∷ word_or_zero (slice_get row.attrs 4) ∷ word_or_zero (slice_get row.attrs 5)
    ∷ []
unfolding words_of
words_are row held =
    let six = six_words row.attrs held.few in
    rw (held.names, held.fit, six.0) refl

-- the bits of the flags of a row
bits_back : (a b c d e : Bool) (n bools signs : ℕ) → let flags = number_of_bits (a ∷ b ∷ c ∷ d ∷ e ∷ []) + (2 ^ 8 * n + 2 ^ 16 * bools + 2 ^ 24 * signs) in
    ((flags % 2 == 1) ≡ a) × ((flags / 2 % 2 == 1) ≡ b) × ((flags / 2 / 2 % 2 == 1) ≡ c) × ((flags / 2 / 2 / 2 % 2 == 1) ≡ d) × ((flags / 2 / 2 / 2 / 2 % 2 == 1) ≡ e)
bits_back a b c d e n bools signs = rw (by_halves (cond a 1 0) (cond b 1 0) (cond c 1 0) (cond d 1 0) (cond e 1 0) n bools signs) (simp (high_bits, low_bit) (refl, refl, refl, refl, refl))

pub read_back : (row : OpRow) → IsHeld row → read_from (words_of row) ≡ row
read_back row held =
    let bools = number_of_bits (map is_bool row.attrs) in
    let signs = number_of_bits (map is_signed row.attrs) in
    let bits = bits_back (is_some row.dropped) (is_some row.first_poll) (is_some row.last_started) (is_some row.last_ended) row.polling (length row.attrs) bools signs in
    let parts = number (cond (is_some row.dropped) 1 0) (cond (is_some row.first_poll) 1 0) (cond (is_some row.last_started) 1 0) (cond (is_some row.last_ended) 1 0) (cond row.polling 1 0) (length row.attrs) bools signs (bit_le _) (bit_le _) (bit_le _) (bit_le _) (bit_le _) held.few (six_bits is_bool row.attrs held.few) in
    rw (words_are row held, bits.0, bits.1, bits.2, bits.3, bits.4, parts.0, parts.1, parts.2, moment row.dropped, moment row.first_poll, moment row.last_started, moment row.last_ended, task_back row.task held.names, six_back row.attrs held.few held.fit) refl
