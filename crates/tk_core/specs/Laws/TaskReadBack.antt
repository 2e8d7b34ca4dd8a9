-- A row is read back from its words.
use Rattle.std.proofs.Common.{◌≡◌, ℕ, ◌+◌, ◌*◌, ◌/◌, ◌%◌, ◌^◌, ◌<◌, Bool, true, false, cond, List, [], length, get_or, Option, Some, None, refl, arith}
use Rattle.std.specs.Prelude.{is_some, ◌==◌}
use Rattle.std.proofs.lemmas.Bool.Decides.{nat_tests}
use Rattle.tk_core.specs.Task.{capped_wait}
use Rattle.tk_core.specs.TaskWords.{words_of, fits, so_far_of, total_word}
use Rattle.tk_core.specs.Laws.WordsReadBack.{low_bit, high_bits, moment}
use Rattle.tk_core.specs.declared.task.row.TaskRow.{TaskRow}
use Rattle.tk_core.specs.declared.task.wait.Waits.{Waits}

-- the row that sixteen words may be those of
abbrev pub read_from : List ℕ → TaskRow
read_from w =
    let f0 = get_or w 0 0 in
    let f1 = f0 / 2 in
    let f2 = f1 / 2 in
    let f3 = f2 / 2 in
    let f4 = f3 / 2 in
    let f5 = f4 / 2 in
    let f6 = f5 / 2 in
    let f7 = f6 / 2 in
    record {
      created = get_or w 1 0;
      dropped = cond (f0 % 2 == 1) (Some (get_or w 2 0)) None;
      polls = get_or w 3 0;
      first_poll = cond (f1 % 2 == 1) (Some (get_or w 4 0)) None;
      last_started = cond (f2 % 2 == 1) (Some (get_or w 5 0)) None;
      last_ended = cond (f3 % 2 == 1) (Some (get_or w 6 0)) None;
      busy = get_or w 7 0;
      wakes = get_or w 8 0;
      self_wakes = get_or w 9 0;
      last_wake = cond (f4 % 2 == 1) (Some (get_or w 10 0)) None;
      clones = get_or w 11 0;
      drops = get_or w 12 0;
      handles = get_or w 13 0;
      sched = get_or w 14 0;
      waits = cond (f7 % 2 == 1) (Some (record { total = get_or w 15 0; so_far = capped_wait (f7 / 2) })) None;
      polling = f5 % 2 == 1;
      scheduled = f6 % 2 == 1;
    }

-- eight bits, then what was counted of a wait, by halves
by_halves : (a b c d e f g h so_far : ℕ) → a + 2 * (b + 2 * (c + 2 * (d + 2 * (e + 2 * (f + 2 * (g + 2 * (h + 2 * 0))))))) + 2 ^ 8 * so_far ≡ a + 2 * (b + 2 * (c + 2 * (d + 2 * (e + 2 * (f + 2 * (g + 2 * (h + 2 * so_far)))))))
by_halves a b c d e f g h so_far = omega arith

-- a row that a program can hold
pub is_held : (row : TaskRow) → length (words_of row) ≡ 16 → fits row.waits ≡ true
unfolding words_of
is_held row e = go (fits row.waits) _ refl e
  where
    go : (held : Bool) (words : List ℕ) → fits row.waits ≡ held → length (cond held words []) ≡ 16 → fits row.waits ≡ true
    go true words is long = is
    go false words is long = absurd (omega arith)

-- what is counted of waits is read back
waits_back : (waits : Option Waits) → fits waits ≡ true → cond (is_some waits) (Some (record { total = total_word waits; so_far = capped_wait (so_far_of waits) })) None ≡ waits
waits_back None held = refl
waits_back (Some waits) held =
    let small : waits.so_far < 2 ^ 56 = grind (arith, nat_tests) in
    let same : capped_wait waits.so_far ≡ waits.so_far = omega arith in
    rw same refl

pub read_back : (row : TaskRow) → fits row.waits ≡ true → read_from (words_of row) ≡ row
unfolding words_of
read_back row held =
    let halves = by_halves (cond (is_some row.dropped) 1 0) (cond (is_some row.first_poll) 1 0) (cond (is_some row.last_started) 1 0) (cond (is_some row.last_ended) 1 0) (cond (is_some row.last_wake) 1 0) (cond row.polling 1 0) (cond row.scheduled 1 0) (cond (is_some row.waits) 1 0) (so_far_of row.waits) in
    rw (held, halves) (simp (high_bits, low_bit, moment, waits_back row.waits held))
