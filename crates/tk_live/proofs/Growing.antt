-- What came of commands, where more is recorded then.
use Rattle.std.proofs.Common.{◌≡◌, ℕ, ◌+◌, ◌-◌, ◌<◌, ◌≤◌, Bool, true, false, List, [], ◌∷◌, ◌++◌, length, take, drop, Some, refl, sym, ap, ◌∙◌, subst, arith, leb, leb-true, leb-false, length-append, length-drop}
use Rattle.std.specs.Prelude.{map, not, nat_le, slice_get, if◌then◌else◌}
use Rattle.std.proofs.lemmas.Bool.{le-leb, lt-leb}
use Rattle.std.specs.List.{items_where_true, between}
use Rattle.std.proofs.lemmas.List.{take-append-le, drop-append-le}
use Rattle.tk_stream.specs.Streams.{Sending}
use Rattle.tk_stream.specs.Tables.{TablesView, empty_tables}
use Rattle.tk_stream.specs.Times.{TaskTimes}
use Rattle.tk_aggregator.specs.Contents.{Content}
use Rattle.tk_live.specs.Course.{Due}
use Rattle.tk_live.specs.Ran.{AreLinesOf, IsLineOf, TellOf, kept_between, lost_first, recorded_before, times_led_to}
use Rattle.tk_live.specs.Runs.{RiseTo, recorded_by}
use Rattle.tk_script.specs.declared.settings.Settings.{Settings}
use Rattle.tk_live.proofs.Lists.{stays_at, last_at}

-- ---- elements of a list that goes on after them

pub between_still : {X : Type 0} (from to : ℕ) (xs more : List X) → to ≤ length xs → between from to (xs ++ more) ≡ between from to xs
between_still {X} from to xs more le = by (leb from to) refl
  where
    by : (b : Bool) → leb from to ≡ b → between from to (xs ++ more) ≡ between from to xs
    by true is =
        let low : from ≤ to = leb-true from to is in
        let rest : to - from ≤ length (drop from xs) = omega (arith, length-drop from xs, low, le) in
        ap (take (to - from)) (drop-append-le from xs more (omega (arith, low, le))) ∙ take-append-le (to - from) (drop from xs) more rest
    by false is =
        let high : to < from = leb-false from to is in
        let none : to - from ≡ 0 = omega (arith, high) in
        ap (λ n. take n (drop from (xs ++ more))) none ∙ sym (ap (λ n. take n (drop from xs)) none)

-- ---- lines that are due

-- none was due after more recordings than there are
pub rise_low : (all from : ℕ) (due : List Due) → RiseTo all from due → from ≤ all
rise_low all from [] rise = let e = rise.1 in omega (arith, e)
rise_low all from (d ∷ due) rise = let e = rise.0.1 in let le = rise_low all d.recorded due rise.1 in omega (arith, e, le)

-- nor is one where there are more
pub rise_more : (all more from : ℕ) (due : List Due) → RiseTo all from due → RiseTo (all + more) from due
rise_more all more from [] rise = (rise.0 + more, let e = rise.1 in omega (arith, e))
rise_more all more from (d ∷ due) rise = (rise.0, rise_more all more d.recorded due rise.1)

-- the last was due after so many at most
pub recorded_low : (all from : ℕ) (due : List Due) → RiseTo all from due → recorded_by from due ≤ all
recorded_low all from [] rise = rise_low all from [] rise
recorded_low all from (d ∷ due) rise = recorded_low all d.recorded due rise.1

-- after all recordings the last line before is the last one that was due
before_all : (all from : ℕ) (due : List Due) → RiseTo all from due → (i : ℕ) → all ≤ i → recorded_before from due i ≡ recorded_by from due
before_all all from [] rise i le = refl
before_all all from (d ∷ due) rise i le =
    let low = rise_low all d.recorded due rise.1 in
    ap (λ b. if b then recorded_before d.recorded due i else from) (le-leb d.recorded i (omega (arith, low, le))) ∙ before_all all d.recorded due rise.1 i le

-- before a line that was due after a recording, the last line is the same as without it
pub before_push : (from : ℕ) (due : List Due) (d : Due) (i : ℕ) → i < d.recorded → recorded_before from (due ++ d ∷ []) i ≡ recorded_before from due i
before_push from [] d i lt = ap (λ b. if b then d.recorded else from) (lt-leb d.recorded i lt)
before_push from (e ∷ es) d i lt = ap (λ n. if nat_le e.recorded i then n else from) (before_push e.recorded es d i lt)

-- the first after each line stay, and one more is among them only if it was kept
first_push : (capacity : ℕ) (kept : List Bool) (mark : Bool) (due : List Due) → RiseTo (length kept) 0 due → ((i : ℕ) → i < length kept → i < recorded_before 0 due i + capacity → slice_get kept i ≡ Some true)
    → (mark ≡ false → recorded_by 0 due + capacity ≤ length kept) → (i : ℕ) → i < length (kept ++ mark ∷ []) → i < recorded_before 0 due i + capacity → slice_get (kept ++ mark ∷ []) i ≡ Some true
first_push capacity kept mark due rise first late i lt low = by (leb (length kept) i) refl
  where
    last : (m : Bool) → (m ≡ false → recorded_by 0 due + capacity ≤ length kept) → i ≡ length kept → slice_get (kept ++ m ∷ []) i ≡ Some true
    last true late is = ap (slice_get (kept ++ true ∷ [])) is ∙ last_at kept true
    last false late is = let le = late refl in absurd (omega (arith, le, is, low, before_all (length kept) 0 due rise i (omega (arith, is))))

    by : (b : Bool) → leb (length kept) i ≡ b → slice_get (kept ++ mark ∷ []) i ≡ Some true
    by true e = let high = leb-true (length kept) i e in last mark late (omega (arith, high, lt, length-append kept (mark ∷ [])))
    by false e = let below = leb-false (length kept) i e in stays_at kept mark i below ∙ first i below low

-- ---- what came of commands, where more is recorded then

module _ (settings : Settings) (kept ks : List Bool) (told ts : List Content) (one_each : length kept ≡ length told) where
  -- between two numbers of recordings of before
  between_kept : (from to : ℕ) → to ≤ length told → kept_between (kept ++ ks) (told ++ ts) from to ≡ kept_between kept told from to
  between_kept from to le =
      let low : to ≤ length kept = omega (arith, one_each, le) in
      λ i. items_where_true (between_still from to kept ks low i) (between_still from to told ts le i)

  -- and of the first ones
  pub first_kept : (n : ℕ) → n ≤ length told → items_where_true (take n (kept ++ ks)) (take n (told ++ ts)) ≡ items_where_true (take n kept) (take n told)
  first_kept n le =
      let low : n ≤ length kept = omega (arith, one_each, le) in
      λ i. items_where_true (take-append-le n kept ks low i) (take-append-le n told ts le i)

  -- what was lost of the first ones
  lost_still : (n : ℕ) → n ≤ length told → lost_first (kept ++ ks) (told ++ ts) n ≡ lost_first kept told n
  lost_still n le =
      let low : n ≤ length kept = omega (arith, one_each, le) in
      λ i. items_where_true (map not (take-append-le n kept ks low i)) (take-append-le n told ts le i)

  -- the lines that were sent are those that were due before
  pub lines_still : (before : TablesView) (had : List TaskTimes) (from : ℕ) (due : List Due) (sent : List Sending) → RiseTo (length told) from due → AreLinesOf settings kept told before had from due sent
      → AreLinesOf settings (kept ++ ks) (told ++ ts) before had from due sent
  lines_still before had from [] [] rise lines = tt
  lines_still before had from [] (s ∷ sent) rise lines = absurd lines
  lines_still before had from (d ∷ due) [] rise lines = absurd lines
  lines_still before had from (d ∷ due) (s ∷ sent) rise lines = (
    subst (λ (p : List Content × List Content). IsLineOf settings before had p.0 p.1 d s)
        (λ j. (sym (between_kept from d.recorded (rise_low (length told) d.recorded due rise.1)) j, sym (lost_still d.recorded (rise_low (length told) d.recorded due rise.1)) j)) lines.0,
    lines_still s.tables (times_led_to had before s) d.recorded due sent rise.1 lines.1,
  )

-- one recording more, which was kept or not: the lines tell of what was recorded as before
pub tells_more : (settings : Settings) (told : List Content) (due : List Due) (kept : List Bool) (sent : List Sending) (mark : Bool) (content : Content) → TellOf settings told due kept sent → RiseTo (length told) 0 due → (mark ≡ false → recorded_by 0 due + settings.capacity ≤ length kept)
    → TellOf settings (told ++ content ∷ []) due (kept ++ mark ∷ []) sent
tells_more settings told due kept sent mark content came rise late = record {
  one_each = omega (arith, came.one_each, length-append kept (mark ∷ []), length-append told (content ∷ []));
  first = first_push settings.capacity kept mark due (subst (λ n. RiseTo n 0 due) (sym came.one_each) rise) came.first late;
  lines = lines_still settings kept (mark ∷ []) told (content ∷ []) came.one_each empty_tables [] 0 due sent rise came.lines;
  stream = came.stream;
}
