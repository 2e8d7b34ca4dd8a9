-- What a line tells after another, and what leaves with it.
use Rattle.std.proofs.Common.{◌≡◌, ℕ, Bool, true, false, List, [], ◌∷◌, ◌++◌, Option, Some, None, refl, sym, ap, ◌∙◌, arith}
use Rattle.std.specs.Prelude.{map, is_some}
use Rattle.tk_events.specs.declared.event.Shown.{Shown}
use Rattle.tk_ids.specs.declared.info.OpInfo.{OpInfo}
use Rattle.tk_ids.specs.declared.info.ResourceInfo.{ResourceInfo}
use Rattle.tk_ids.specs.declared.info.TaskInfo.{TaskInfo}
use Rattle.tk_stream.specs.Lines.{none_gone, gone_of, gone_between}
use Rattle.tk_stream.specs.Retention.{due_of}
use Rattle.tk_stream.specs.Streams.{Sending, gone_by, tables_sent, times_sent}
use Rattle.tk_stream.specs.Tables.{TablesView}
use Rattle.tk_stream.specs.Times.{TaskTimes}
use Rattle.tk_stream.proofs.GoneLemmas.{staying_all}
use Rattle.tk_stream.proofs.PruneLemmas.{distinct_begin, pruned_line}
use Rattle.tk_aggregator.specs.Absorbing.{Infos, infos_of, with_told, absorb, infos_without}
use Rattle.tk_aggregator.specs.Aggregates.{Aggregating, IsSound, pruned, tables_at, sending_at}
use Rattle.tk_aggregator.specs.Contents.{Content, content_of}
use Rattle.tk_aggregator.proofs.FollowLemmas.{infos_left}
use Rattle.tk_live.specs.Course.{Due}
use Rattle.tk_live.specs.Ran.{infos_with, leaving, times_led_to, kept_between, lost_first, IsLineOf, AreLinesOf}
use Rattle.tk_live.specs.Runs.{RiseTo, recorded_by}
use Rattle.tk_script.specs.declared.settings.Settings.{Settings}

-- events add to infos and counts what they tell
pub absorb_told : (infos : Infos) (ss : List Shown) → absorb infos ss ≡ infos_with infos (map content_of ss)
absorb_told infos [] = refl
absorb_told infos (s ∷ ss) = absorb_told (with_told infos (content_of s)) ss

-- ---- what leaves

-- all stay where none leaves
none_leave : (infos : Infos) → infos ≡ infos_without none_gone infos
none_leave infos = λ i. record {
  tasks = sym (staying_all (λ (x : TaskInfo). x.id) infos.tasks) i;
  resources = sym (staying_all (λ (x : ResourceInfo). x.id) infos.resources) i;
  ops = sym (staying_all (λ (x : OpInfo). x.id) infos.ops) i;
  counts = infos.counts;
}

-- a line has the infos that are there, but for what leaves
pub infos_leave : (whole : Bool) (a : Aggregating) (now : ℕ) → infos_of (tables_at whole a now) ≡ infos_without (leaving a.retention a.told (sending_at whole a now)) (infos_of a.tables)
infos_leave true a now = by a.retention
  where
    by : (o : Option ℕ) → infos_of a.tables ≡ infos_without (leaving o a.told (sending_at true a now)) (infos_of a.tables)
    by None = none_leave (infos_of a.tables)
    by (Some r) = none_leave (infos_of a.tables)
infos_leave false a now = by a.retention
  where
    by : (o : Option ℕ) → infos_of (pruned o a now).tables ≡ infos_without (leaving o a.told (sending_at false a now)) (infos_of a.tables)
    by None = none_leave (infos_of a.tables)
    by (Some r) = infos_left a.tables (due_of a.told now r)

-- it says that just those are gone
pub just_due : (whole : Bool) (a : Aggregating) (now : ℕ) → IsSound a → (sending_at whole a now).removes ≡ true → gone_by a.told (sending_at whole a now) ≡ leaving a.retention a.told (sending_at whole a now)
just_due true a now sound removes = by a.retention
  where
    by : (o : Option ℕ) → none_gone ≡ leaving o a.told (sending_at true a now)
    by None = refl
    by (Some r) = refl
just_due false a now sound removes = by a.retention removes
  where
    by : (o : Option ℕ) → is_some o ≡ true → gone_between a.told (record (pruned o a now).tables { now = now }) ≡ leaving o a.told (sending_at false a now)
    by None none = absurd cc
    by (Some r) some = ap gone_of (sym (pruned_line a.told a.tables now r 1 (distinct_begin a.told a.tables sound.on sound.fit.distinct) sound.on))

-- a line has the totals of dropped events that are there
pub dropped_stay : (whole : Bool) (a : Aggregating) (now : ℕ) → (tables_at whole a now).dropped ≡ a.tables.dropped
dropped_stay true a now = refl
dropped_stay false a now = by a.retention
  where
    by : (o : Option ℕ) → (pruned o a now).tables.dropped ≡ a.tables.dropped
    by None = refl
    by (Some r) = refl

-- ---- one line more

pub lines_push : (settings : Settings) (kept : List Bool) (told : List Content) (t : TablesView) (had : List TaskTimes) (from : ℕ) (due : List Due) (sent : List Sending) (d : Due) (s : Sending) → AreLinesOf settings kept told t had from due sent
    → IsLineOf settings (tables_sent t sent) (times_sent had t sent) (kept_between kept told (recorded_by from due) d.recorded) (lost_first kept told d.recorded) d s → AreLinesOf settings kept told t had from (due ++ d ∷ []) (sent ++ s ∷ [])
lines_push settings kept told t had from [] [] d s each line = (line, tt)
lines_push settings kept told t had from [] (y ∷ ys) d s each line = absurd each
lines_push settings kept told t had from (e ∷ es) [] d s each line = absurd each
lines_push settings kept told t had from (e ∷ es) (y ∷ ys) d s each line = (each.0, lines_push settings kept told y.tables (times_led_to had t y) e.recorded es ys d s each.1 line)

pub recorded_push : (from : ℕ) (due : List Due) (d : Due) → recorded_by from (due ++ d ∷ []) ≡ d.recorded
recorded_push from [] d = refl
recorded_push from (e ∷ es) d = recorded_push e.recorded es d

pub rise_push : (all from : ℕ) (due : List Due) (d : Due) → d.recorded ≡ all → RiseTo all from due → RiseTo all from (due ++ d ∷ [])
rise_push all from [] d is rise = ((rise.0, rise.1 ∙ sym is), (0, omega (arith, is)))
rise_push all from (e ∷ es) d is rise = (rise.0, rise_push all e.recorded es d is rise.1)
