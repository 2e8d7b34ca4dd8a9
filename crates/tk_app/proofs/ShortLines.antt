-- No line that a script writes is longer than a client takes, by how long the script is.
use Rattle.std.proofs.Common.{◌≡◌, ℕ, ◌+◌, ◌-◌, ◌*◌, ◌≤◌, List, [], ◌∷◌, ◌++◌, length, take, drop, Bool, true, false, Option, Some, None, ap, sym, subst, arith}
use Rattle.std.specs.Prelude.{filter, sum_by, IfSome}
use Rattle.std.specs.List.{AllByRecursion, between}
use Rattle.std.proofs.Math.Seq.{take-add}
use Rattle.std.proofs.lemmas.List.{length-map}
use Rattle.std.proofs.lemmas.List.Sums.{sum_by-append, sum_by-take-le, length-filter, count_by-le-length}
use Rattle.tk_stream.specs.Lines.{is_told, told_times}
use Rattle.tk_stream.specs.Ranges.{AreTimes}
use Rattle.tk_stream.specs.Streams.{Sending, GoesOn, AreToldOf, lines_sent}
use Rattle.tk_stream.specs.Tables.{TablesView, empty_tables, task_id}
use Rattle.tk_stream.specs.Times.{TaskTimes, times_id, same_times, all_times}
use Rattle.tk_stream.specs.declared.tables.times.PollTimes.{PollTimes}
use Rattle.tk_stream.proofs.LinesLemmas.{map-same}
use Rattle.tk_stream.proofs.PruneLemmas.{all_filter}
use Rattle.tk_aggregator.specs.Contents.{Content}
use Rattle.tk_client.specs.Meaning.{greatest_line}
use Rattle.tk_client.specs.Streams.{AreShort}
use Rattle.tk_live.specs.Course.{Due, start_of_all, course_of}
use Rattle.tk_live.specs.Pasts.{Pasts}
use Rattle.tk_live.specs.Ran.{AreLinesOf, IsPolledTask, IsStreamOf, TellsTimes, kept_between, leaving, times_before, times_led_to}
use Rattle.tk_live.specs.Runs.{RiseTo}
use Rattle.tk_script.specs.Commands.{Line, lines_of}
use Rattle.tk_script.specs.declared.settings.Settings.{Settings}
use Rattle.tk_app.proofs.CourseSizes.{course_takes, course_rises}
use Rattle.tk_app.proofs.LineSizes.{ArePolls, tables_size, times_count, sent_short}
use Rattle.tk_app.proofs.Sums.{sum_where}
use Rattle.tk_app.proofs.ToldSizes.{told_size, line_more}
use Rattle.tk_app.proofs.WordSizes.{line_size, script_fits}

-- ---- what was told before a line

-- what the items take that the first so many recordings tell of
abbrev front_size : List Content → ℕ → ℕ
front_size told n = sum_by told_size (take n told)

since_short : (kept : List Bool) (told : List Content) (from to k : ℕ) → from + k ≡ to → sum_by told_size (kept_between kept told from to) + front_size told from ≤ front_size told to
since_short kept told from to k is =
    let many : to - from ≡ k = omega (arith, is) in
    omega (
      arith,
      sum_where told_size (between from to kept) (between from to told),
      ap (λ n. sum_by told_size (take n (drop from told))) many,
      ap (front_size told) is,
      ap (sum_by told_size) (take-add from k told),
      sum_by-append told_size (take from told) (take k (drop from told)),
    )

-- ---- the histograms of a line

some_told : (old new : List TaskTimes) → length (told_times old new) ≤ length new
some_told old new =
    let p = is_told times_id same_times old in
    omega (arith, length-map (filter p new) all_times, length-filter p new, count_by-le-length p new)

tells_few : (timed : Bool) (ps : Pasts) (before : TablesView) (had : List TaskTimes) (s : Sending) → TellsTimes timed ps before had s → times_count s.told ≤ length s.tables.tasks
tells_few true ps before had s are =
    let shown = times_led_to had before s in
    omega (arith, ap times_count are.told, some_told (times_before had s) shown, ap length are.one_each, length-map shown times_id, length-map s.tables.tasks task_id)
tells_few false ps before had s none = omega (arith, ap times_count none)

-- a histogram has none of waits beside it
abbrev IsAlone : TaskTimes → Type 0
IsAlone t = t.1.waits ≡ None

-- those that a script's tasks have are of polls
polled_alone : (ps : Pasts) (times : List TaskTimes) → AllByRecursion (IsPolledTask ps) times → AllByRecursion IsAlone times
polled_alone ps [] polls = tt
polled_alone ps (t ∷ times) polls = (ap (λ (p : PollTimes). p.waits) polls.0.times, polled_alone ps times polls.1)

told_alone : (timed : Bool) (ps : Pasts) (before : TablesView) (had : List TaskTimes) (s : Sending) → TellsTimes timed ps before had s → IfSome s.told (AllByRecursion IsAlone)
told_alone true ps before had s are =
    let shown = times_led_to had before s in
    let differs = is_told times_id same_times (times_before had s) in
    let all : AllByRecursion IsAlone (told_times (times_before had s) shown) =
    subst (AllByRecursion IsAlone) (sym (map-same (filter differs shown))) (all_filter IsAlone differs shown (polled_alone ps shown are.polls)) in
    subst (λ (told : Option (List TaskTimes)). IfSome told (AllByRecursion IsAlone)) (sym are.told) all
told_alone false ps before had s none = subst (λ (told : Option (List TaskTimes)). IfSome told (AllByRecursion IsAlone)) (sym none) tt

all_polls : (times : List TaskTimes) → AllByRecursion AreTimes times → AllByRecursion IsAlone times → AllByRecursion ArePolls times
all_polls [] are alone = tt
all_polls (t ∷ times) are alone = ((are.0, alone.0), all_polls times are.1 alone.1)

each_told : (tables : TablesView) (told : Option (List TaskTimes)) → IfSome told (AreToldOf tables) → IfSome told (AllByRecursion IsAlone) → IfSome told (AllByRecursion ArePolls)
each_told tables None are alone = tt
each_told tables (Some times) are alone = all_polls times are.each alone

-- ---- the lines

-- so little is told of items that no line of it is too long. Besides what a line tells of its items it names those that are gone, of which
-- an id takes less than a twelfth of the item
abbrev IsLittle : ℕ → Type 0
IsLittle size = 13 * size + 24000 ≤ 12 * greatest_line

module _ (settings : Settings) (kept : List Bool) (told : List Content) (few : IsLittle (sum_by told_size told)) where
  lines_short : (before : TablesView) (had : List TaskTimes) (from last : ℕ) (due : List Due) (sent : List Sending) → RiseTo (length told) from due → AreLinesOf settings kept told before had from due sent → GoesOn before last sent
      → tables_size before ≤ front_size told from → AreShort greatest_line (lines_sent before sent)
  lines_short before had from last [] [] rise lines on low = tt
  lines_short before had from last [] (s ∷ sent) rise lines on low = absurd lines
  lines_short before had from last (d ∷ due) [] rise lines on low = absurd lines
  lines_short before had from last (d ∷ due) (s ∷ sent) rise lines on low =
      let line = lines.0 in
      let may = on.1 in
      let now : tables_size s.tables ≤ front_size told d.recorded =
      omega (arith, low, line_more before s.tables (leaving settings.retention before s) (kept_between kept told from d.recorded) line.infos, since_short kept told from d.recorded rise.0.0 rise.0.1) in (
        omega (
          arith,
          few,
          low,
          now,
          sum_by-take-le told_size told from,
          sum_by-take-le told_size told d.recorded,
          sent_short before s may.fit (each_told s.tables s.told may.told (told_alone settings.times d.pasts before had s line.times)) (tells_few settings.times d.pasts before had s line.times),
        ),
        lines_short s.tables (times_led_to had before s) d.recorded s.seq due sent rise.1 lines.1 on.2 now,
      )

-- what came of lines that make so little
pub came_short : (settings : Settings) (ls : List Line) (kept : List Bool) (sent : List Sending) → IsLittle (sum_by line_size ls) → IsStreamOf settings (course_of ls) kept sent → AreShort greatest_line (lines_sent empty_tables sent)
came_short settings ls kept sent few came =
    lines_short settings kept (course_of ls).told (omega (arith, few, course_takes 1 ls start_of_all)) empty_tables [] 0 0 (course_of ls).due sent (course_rises 1 ls start_of_all (0, omega arith)) came.lines came.stream (omega arith)

-- the lines of a script make so little, and so do the first of them
pub script_few : (script : List ℕ) → length script ≤ 1048576 → (before after : List Line) → lines_of script ≡ before ++ after → IsLittle (sum_by line_size before)
script_few script le before after is = omega (arith, le, script_fits script, ap (sum_by line_size) is, sum_by-append line_size before after)
