-- What holds inside of an aggregator's histograms, and what each call makes of them.
use Rattle.std.proofs.Common.{◌≡◌, ℕ, zero, suc, ◌≤◌, List, [], ◌∷◌, length, take, Bool, true, Option, Some, None, refl, ap, ap₂, sym, subst, ◌∙◌, arith}
use Rattle.std.specs.Prelude.{map, not, unwrap_or, if◌then◌else◌, Result, IfOk}
use Rattle.std.specs.Option.{option_map_or}
use Rattle.std.proofs.lemmas.List.{length-map, length-take}
use Rattle.std.proofs.lemmas.List.Sums.{length-filter, count_by-le-length}
use Rattle.tk_core.specs.declared.times.row.TimesRow.{TimesRow}
use Rattle.tk_ledgers.specs.Times.{TimesSight}
use Rattle.tk_stream.specs.Applied.{times_kind, BeginWith}
use Rattle.tk_stream.specs.Fronts.{Telling, as_told, with_rows}
use Rattle.tk_stream.specs.Lines.{LineView, GoneView, none_gone, told_times, with_times}
use Rattle.tk_stream.specs.Retention.{stats_without, times_staying}
use Rattle.tk_stream.specs.Tables.{is_among, staying}
use Rattle.tk_stream.specs.Times.{TaskTimes, times_id, times_shown, times_with}
use Rattle.tk_stream.specs.declared.tables.times.PollTimes.{PollTimes}
use Rattle.tk_stream.proofs.FrontLemmas.{keeps_told, all_told}
use Rattle.tk_stream.proofs.GoneLemmas.{staying_all}
use Rattle.tk_aggregator.specs.Readings.{ReadAll, EachReads}
use Rattle.tk_aggregator.specs.Standing.{TellsSame}
use Rattle.tk_aggregator.specs.Timing.{TimingView, times_ledger, ReadsShown, ReadsTimes, told_by, timing_told, AreTimed}
use Rattle.tk_aggregator.proofs.HandledLemmas.{rows-count}
use Rattle.tk_aggregator.proofs.ReadingLemmas.{length-with_rows}

-- the histograms of these parts
abbrev pub timing_of : Bool → List TaskTimes → Telling PollTimes → List TimesSight → TimingView
timing_of reads shown telling readers = record { reads = reads; shown = shown; told = with_rows (as_told times_with) shown telling.rows; readers = readers }

-- ---- those that were told

-- they are the first ones
pub told_begin : (shown : List TaskTimes) (rows : List (Option PollTimes)) → length rows ≤ length shown → BeginWith times_kind (with_rows (as_told times_with) shown rows) shown
told_begin shown [] le = tt
told_begin [] (r ∷ rows) le = absurd (omega (arith, le))
told_begin (x ∷ shown) (r ∷ rows) le = (keeps_told times_id times_with (λ t times. refl) x r, told_begin shown rows (omega (arith, le)))

-- as many as there are rows
pub told_count : (shown : List TaskTimes) (rows : List (Option PollTimes)) → length rows ≤ length shown → length (with_rows (as_told times_with) shown rows) ≡ length rows
told_count shown [] le = refl
told_count [] (r ∷ rows) le = absurd (omega (arith, le))
told_count (x ∷ shown) (r ∷ rows) le = ap suc (told_count shown rows (omega (arith, le)))

-- so they are told of the first ones alone, as many as were told of or more
pub told_front : (n : ℕ) (shown : List TaskTimes) (rows : List (Option PollTimes)) → length rows ≤ n → with_rows (as_told times_with) (take n shown) rows ≡ with_rows (as_told times_with) shown rows
told_front n shown [] le = refl
told_front zero shown (r ∷ rows) le = absurd (omega (arith, le))
told_front (suc n) [] (r ∷ rows) le = refl
told_front (suc n) (x ∷ shown) (r ∷ rows) le = ap (λ xs. as_told times_with x r ∷ xs) (told_front n shown rows (omega (arith, le)))

-- ---- what holds inside

none_left : {A : Type 0} (xs : List A) → length xs ≡ 0 → xs ≡ []
none_left [] e = refl
none_left (x ∷ xs) e = absurd (omega (arith, e))

-- no more stay than there were
pub fewer_stay : (gone : List ℕ) (shown : List TaskTimes) (room : ℕ) → length shown ≤ room → length (staying times_id gone shown) ≤ room
fewer_stay gone shown room le =
    let stay : TaskTimes → Bool = λ t. not (is_among gone (times_id t)) in
    let a = length-filter stay shown in
    let b = count_by-le-length stay shown in
    omega (arith, a, b, le)

module _ (reads : Bool) (shown : List TaskTimes) (telling : Telling PollTimes) (seats : ℕ) (timed : AreTimed reads shown telling seats) where
  -- where other histograms stand in the place of these
  pub others_timed : (now : List TaskTimes) (tells : Telling PollTimes) (room : ℕ) → length now ≡ length shown → length tells.rows ≡ length telling.rows → tells.room ≡ telling.room → seats ≤ room → AreTimed reads now tells room
  others_timed now tells room same told near seated = record {
    told = omega (arith, same, told, timed.told);
    room = omega (arith, same, near, timed.room);
    seated = omega (arith, same, seated, timed.seated);
    unread = λ unread. none_left now (same ∙ ap length (timed.unread unread));
  }

  -- where the first ones are left, of which all were told of that were
  pub front_timed : (n : ℕ) → length telling.rows ≤ n → AreTimed reads (take n shown) telling seats
  front_timed n le = record {
    told = omega (arith, length-take n shown, le, timed.told);
    room = omega (arith, length-take n shown, timed.room);
    seated = omega (arith, length-take n shown, timed.seated);
    unread = λ unread. ap (take n) (timed.unread unread) ∙ none_first n;
  }
    where
      none_first : (n : ℕ) → take {A = TaskTimes} n [] ≡ []
      none_first zero = refl
      none_first (suc n) = refl

  -- where all that stay were told
  pub told_timed : (gone : List ℕ) (now : List TaskTimes) (tells : Telling PollTimes) (room : ℕ) → now ≡ staying times_id gone shown → tells ≡ record { rows = map (λ t. None) now; room = telling.room } → room ≡ seats → AreTimed reads now tells room
  told_timed gone now tells room is all seated =
      let fewer : length now ≤ length shown = subst (λ xs. length xs ≤ length shown) (sym is) (fewer_stay gone shown (length shown) (omega arith)) in
      let rows : length tells.rows ≡ length now = ap (λ (t : Telling PollTimes). length t.rows) all ∙ length-map {B = Option PollTimes} now (λ t. None) in
      record {
        told = omega (arith, rows);
        room = omega (arith, fewer, timed.room, ap (λ (t : Telling PollTimes). t.room) all);
        seated = omega (arith, fewer, timed.seated, seated);
        unread = λ unread. is ∙ ap (staying times_id gone) (timed.unread unread);
      }

-- ---- reading

-- what each reader read, by its row
rows_read : (ss : List TimesSight) (times : List PollTimes) (ts : List TimesSight) → EachReads ReadsShown ss times ts → (rows : List TimesRow) × (times ≡ map times_shown rows) × ReadAll times_ledger ss rows ts
rows_read [] [] [] all = ([], refl, tt)
rows_read [] [] (t ∷ ts) all = absurd all
rows_read [] (x ∷ times) ts all = absurd all
rows_read (s ∷ ss) [] ts all = absurd all
rows_read (s ∷ ss) (x ∷ times) [] all = absurd all
rows_read (s ∷ ss) (x ∷ times) (t ∷ ts) all =
    let rest = rows_read ss times ts all.1 in
    (all.0.0 ∷ rest.0, ap₂ (λ y ys. y ∷ ys) all.0.1 rest.1, (all.0.2, rest.2))

module _ (reads : Bool) (shown : List TaskTimes) (telling : Telling PollTimes) (readers : List TimesSight) (now : List TaskTimes) (tells : Telling PollTimes) (read : List TimesSight)
    (times : List PollTimes) (each : EachReads ReadsShown readers times read) (is : now ≡ with_rows times_with shown times) (alike : TellsSame times_with shown telling now tells) where
  pub read_timed : (seats : ℕ) → AreTimed reads shown telling seats → length readers ≡ length shown → (room : ℕ) → room ≡ seats → AreTimed reads now tells room
  read_timed seats timed step room same =
      let count : length shown ≡ length times = sym step ∙ rows-count ReadsShown readers times read each in
      others_timed reads shown telling seats timed now tells room (ap length is ∙ length-with_rows times_with shown times count ∙ sym count) alike.count alike.room (omega (arith, same))

  pub each_read : ReadsTimes (timing_of reads shown telling readers) (timing_of reads now tells read)
  each_read =
      let r = rows_read readers times read each in
      (r.0, r.2, λ i. record { reads = reads; shown = (is ∙ ap (with_rows times_with shown) r.1) i; told = alike.same i; readers = read })

-- ---- lines

-- what is told but for that of tasks that leave, if any do
all_stay : (leaving : Option GoneView) (times : List TaskTimes) → times_staying leaving times ≡ stats_without times_id (unwrap_or leaving none_gone).tasks times
all_stay None times = sym (staying_all times_id times)
all_stay (Some gone) times = refl

-- the line that tells histograms beside none, or beside those that were told
module _ (reads : Bool) (shown : List TaskTimes) (telling : Telling PollTimes) (readers : List TimesSight) (snapshot : Bool) (leaving : Option GoneView) (line : LineView) (told : List TaskTimes)
    (is_read : reads ≡ true) (is_told : told ≡ (if snapshot then [] else with_rows (as_told times_with) shown telling.rows)) where
  abbrev timing : TimingView
  timing = timing_of reads shown telling readers

  abbrev gone : List ℕ
  gone = (unwrap_or leaving none_gone).tasks

  line_is : with_times (times_staying leaving (told_times told shown)) line ≡ option_map_or (λ times. with_times times line) (told_by snapshot timing gone) line
  line_is =
      ap (λ times. with_times times line) (all_stay leaving (told_times told shown) ∙ ap (λ (xs : List TaskTimes). stats_without times_id gone (told_times xs shown)) is_told)
      ∙ ap (λ (r : Bool). option_map_or (λ times. with_times times line) (if r then Some (stats_without times_id gone (told_times (if snapshot then [] else timing.told) shown)) else None) line) (sym is_read)

  pub line_told : {E : Type 0} (result : Result LineView E) (old : TimingView) → timing ≡ old → IfOk result (λ l. l ≡ with_times (times_staying leaving (told_times told shown)) line)
      → IfOk result (λ l. l ≡ option_map_or (λ times. with_times times line) (told_by snapshot old gone) line)
  line_told result old is made =
      subst (λ (t : TimingView). IfOk result (λ l. l ≡ option_map_or (λ times. with_times times line) (told_by snapshot t gone) line)) is
      (subst (λ (x : LineView). IfOk result (λ l. l ≡ x)) line_is made)

-- ---- telling

module _ (reads : Bool) (shown : List TaskTimes) (telling : Telling PollTimes) (readers : List TimesSight) (gone : List ℕ) (now : List TaskTimes) (tells : Telling PollTimes) (stay : List TimesSight) where
  pub all_are_told : now ≡ staying times_id gone shown → tells ≡ record { rows = map (λ t. None) now; room = telling.room } → stay ≡ staying (λ (s : TimesSight). s.id) gone readers
      → timing_of reads now tells stay ≡ timing_told gone (timing_of reads shown telling readers)
  all_are_told is all left = λ i. record {
    reads = reads;
    shown = is i;
    told = (ap (λ (t : Telling PollTimes). with_rows (as_told times_with) now t.rows) all ∙ all_told times_with now ∙ is) i;
    readers = left i;
  }
