-- What is odd, worst first.
use Rattle.std.specs.Prelude.{ℕ, suc, ◌+◌, ◌-◌, ◌==◌, nat_le, nat_lt, Bool, true, ◌&&◌, not, List, [], ◌∷◌, ◌++◌, drop, length, map, fold, Option, Some, None, if◌then◌else◌}
use Rattle.std.specs.List.{filter_map, insert, list_any}
use Rattle.std.specs.Option.{option_map, option_map_or}
use Rattle.std.specs.Str.{bytes_eq}
use Rattle.tk_client.specs.Warnings.{is_spawn, has_lost_waker, has_never_yielded, wakes_itself}
use Rattle.tk_core.specs.Lists.{capped}
use Rattle.tk_core.specs.Lasting.{runs_for, waits_for}
use Rattle.tk_core.specs.declared.task.row.TaskRow.{TaskRow}
use Rattle.tk_series.specs.Series.{with_value}
use Rattle.tk_stream.specs.Tables.{TablesView, is_among}
use Rattle.tk_stream.specs.declared.tables.task.Task.{Task}
use Rattle.tk_odd.specs.declared.apart.Stretch.{Stretch}
use Rattle.tk_odd.specs.declared.finding.Finding.{Finding}
use Rattle.tk_odd.specs.declared.finding.Found.{Found}
use Rattle.tk_odd.specs.declared.finding.Victim.{Victim}
use Rattle.tk_odd.specs.declared.finding.OddKind.{OddKind}
use Rattle.tk_odd.specs.declared.finding.OddKind.TheVariants.{HoldsUp, StandsStill, LeftAlone, Overloaded, NeverYielded, LostWaker, PassedOver, NeverPolled, LongPoll, SelfWakes}
use Rattle.tk_odd.specs.declared.held.Held.{Held}
use Rattle.tk_odd.specs.declared.limits.Limits.{Limits}
use Rattle.tk_odd.specs.Diagnosis.{Standing}
use Rattle.tk_odd.specs.Gains.{waits}
use Rattle.tk_odd.specs.Places.{place_of}
use Rattle.tk_odd.specs.Victims.{Pairs, most_held}
use Rattle.tk_odd.specs.Words.{name_of, shape_of}
use Rattle.tk_odd.specs.declared.words.Shape.{Shape}
use Rattle.tk_odd.specs.declared.words.Shape.TheVariants as shapes

-- what is found, with the place that it is about. What is of all has none
abbrev pub Placed : Type 0
Placed = List ℕ × Finding

-- both, as they are answered
abbrev pub placed : Found → Placed
placed x = (x.place.items, x.finding)

-- who waited longest for it, as it is answered
abbrev pub victim_of : Option Victim → Option (List ℕ × ℕ)
victim_of victim = option_map (λ v. (v.place.items, v.time)) victim

-- what is found, with who waited longest for it
abbrev pub Told : Type 0
Told = Placed × Option (List ℕ × ℕ)

-- the same, as it is answered
abbrev pub told : Found → Told
told x = (placed x, victim_of x.victim)

-- ---- of tasks, at the tables' moment

-- a task has waited for its first poll for so long
abbrev pub is_never_polled : ℕ → ℕ → TaskRow → Bool
is_never_polled limit now x = x.scheduled && (x.polls == 0 && nat_le limit (now - x.created))

-- a task that was passed over still waits
abbrev pub is_still_passed : List ℕ → Task → Bool
is_still_passed passed t = waits t.row && is_among passed t.info.id

-- what is found about a task now: this figure, since then
abbrev pub found : OddKind → Task → ℕ → ℕ → ℕ → Finding
found kind t figure of since =
    record { kind = kind; is_now = true; task = Some t.info.id; figure = figure; still = 0; longest = 0; of = of; since = since; until = 0; tasks = 1 }

-- since when a task that lost its last waker has been idle: its last poll ended then, or it was created then
abbrev pub idle_since : TaskRow → ℕ
idle_since x = option_map_or (λ m. m) x.last_ended x.created

-- what may be found about a task in itself, and whether it is: its first poll doesn't end
abbrev pub never_yielded : Limits → ℕ → Task → Bool × Finding
never_yielded limits now t =
    (has_never_yielded limits.lints.never_yielded_ns now t.row, found NeverYielded t (runs_for t.row now) 0 (now - runs_for t.row now))

-- nobody can wake it
abbrev pub lost_waker : ℕ → Task → Bool × Finding
lost_waker now t = (has_lost_waker t.row, found LostWaker t (now - idle_since t.row) 0 (idle_since t.row))

-- it was passed over
abbrev pub passed_over : ℕ → List ℕ → Task → Bool × Finding
passed_over now passed t = (is_still_passed passed t, found PassedOver t (waits_for t.row now) 0 (now - waits_for t.row now))

-- it waits for its first poll, and wasn't passed over
abbrev pub never_polled : Limits → ℕ → List ℕ → Task → Bool × Finding
never_polled limits now passed t =
    (is_never_polled limits.lints.never_yielded_ns now t.row && not (is_still_passed passed t), found NeverPolled t (now - t.row.created) 0 t.row.created)

-- most of its wakes are its own
abbrev pub self_waking : Limits → Task → Bool × Finding
self_waking limits t = (wakes_itself limits.lints.self_wake_percent t.row, found SelfWakes t t.row.self_wakes t.row.wakes t.row.created)

-- all of these
abbrev pub signs_of : Limits → ℕ → List ℕ → Task → List (Bool × Finding)
signs_of limits now passed t =
    never_yielded limits now t ∷ lost_waker now t ∷ passed_over now passed t ∷ never_polled limits now passed t ∷ self_waking limits t ∷ []

-- ---- the same about tasks of one place is one finding

-- what is found about both: that of the greater figure, of as many tasks
abbrev pub both : Finding → Finding → Finding
both a b = record (if nat_lt a.figure b.figure then b else a) { tasks = capped (a.tasks + b.tasks) }

-- findings, each with its kind and place
abbrev pub Signs : Type 0
Signs = List (List ℕ × Finding)

-- a finding with its place, where it has this label
abbrev pub sign_placed : List ℕ × Finding → Placed
sign_placed (label, x) = (drop (length (name_of x.kind) + 1) label, x)

-- what says that two findings are one: the kind, and the place
abbrev pub label_of : OddKind → Task → List ℕ
label_of kind t = name_of kind ++ (32 ∷ place_of t.info)

-- findings, and one about a task, where it holds
abbrev pub with_sign : Task → Signs → Bool × Finding → Signs
with_sign t signs (holds, x) = if holds then with_value both (label_of x.kind t) x signs else signs

-- findings, and what is found about a task. Tasks of kind spawn alone are looked at
abbrev pub with_task_signs : Limits → ℕ → List ℕ → Signs → Task → Signs
with_task_signs limits now passed signs t =
    if is_spawn t.info.kind then fold (with_sign t) signs (signs_of limits now passed t) else signs

-- what is found about tasks in themselves
abbrev pub of_tasks : Limits → ℕ → List ℕ → List Task → Signs
of_tasks limits now passed tasks = fold (with_task_signs limits now passed) [] tasks

-- ---- of places

-- a task is in a long poll
abbrev pub runs_long : ℕ → ℕ → Task → Bool
runs_long long now t = is_spawn t.info.kind && nat_le long (runs_for t.row now)

-- places, and that of a task which is in a long poll
abbrev pub with_running : ℕ → ℕ → List (List ℕ) → Task → List (List ℕ)
with_running long now places t = if runs_long long now t then places ++ place_of t.info ∷ [] else places

-- the places of the tasks that are in a long poll
abbrev pub running : ℕ → TablesView → List (List ℕ)
running long tables = fold (with_running long tables.now) [] tables.tasks

-- a place is among these
abbrev pub is_there : List (List ℕ) → List ℕ → Bool
is_there places place = list_any (λ p. bytes_eq p place) places

-- what is found about a place, with these numbers
abbrev pub found_at : OddKind → Bool → Held → ℕ → Finding
found_at kind is_now h figure =
    record { kind = kind; is_now = is_now; task = Some h.task; figure = figure; still = h.still; longest = h.longest; of = 0; since = option_map_or (λ m. m) h.since 0; until = h.until; tasks = h.tasks }

-- what is found about a place with these numbers where a task of it is in a long poll or not, and the last step ended then: it holds up others, now
-- or earlier, or everything stood still while it ran, or it had a long poll
abbrev pub of_held : ℕ → ℕ → Bool → Held → Option Finding
of_held long last runs h =
    if nat_le 1 h.charged then Some (found_at HoldsUp (runs && h.until == last) h h.charged) else
    (if nat_le 1 h.still then Some (found_at StandsStill runs h h.still) else
    (if nat_le long h.longest then Some (found_at LongPoll runs h h.longest) else None))

-- the same, where the tasks of these places are in a long poll
abbrev pub of_place : ℕ → ℕ → List (List ℕ) → List ℕ × Held → Option Placed
of_place long last places (place, h) = option_map (λ x. (place, x)) (of_held long last (is_there places place) h)

-- ---- of all

-- tasks waited, and no task is to blame: until the last step, or earlier
abbrev pub of_all : OddKind → Option Stretch → ℕ → List Placed
of_all kind None last = []
of_all kind (Some s) last =
    ([], record { kind = kind; is_now = s.to == last; task = None; figure = s.to - s.from; still = 0; longest = 0; of = 0; since = s.from; until = s.to; tasks = 0 }) ∷ []

-- ---- worst first

-- how grave a finding is: 1 is the worst
abbrev pub gravity : Bool → OddKind → ℕ
gravity is_now HoldsUp = if is_now then 1 else 7
gravity is_now StandsStill = if is_now then 1 else 7
gravity is_now LeftAlone = if is_now then 2 else 9
gravity is_now Overloaded = if is_now then 2 else 9
gravity is_now LongPoll = if is_now then 3 else 8
gravity is_now NeverYielded = 4
gravity is_now LostWaker = 5
gravity is_now PassedOver = 5
gravity is_now NeverPolled = 6
gravity is_now SelfWakes = 8

-- a finding holds now, and is of gravity 1 to 3
abbrev pub is_urgent : Finding → Bool
is_urgent f = f.is_now && nat_le (gravity f.is_now f.kind) 3

-- one stands before another: it is graver, or as grave and of a greater figure
abbrev pub stands_before : Finding → Finding → Bool
stands_before a b =
    if gravity a.is_now a.kind == gravity b.is_now b.kind then nat_lt b.figure a.figure else nat_lt (gravity a.is_now a.kind) (gravity b.is_now b.kind)

-- how many of a list a finding goes after: all before the first that it stands before
abbrev pub rank : List Placed → Finding → ℕ
rank [] x = 0
rank (y ∷ ys) x = if stands_before x y.1 then 0 else suc (rank ys x)

-- a finding put in its place, after those of the same rank
abbrev pub put_in : List Placed → Placed → List Placed
put_in ys x = insert ys (rank ys x.1) x

-- all that is odd: of places in the order in which they first came, of all, and of tasks in table order
abbrev pub all_odd : Limits → Standing → TablesView → List Placed
all_odd limits d tables =
    filter_map (of_place limits.long d.first.moment (running limits.long tables)) d.places.0
    ++ of_all LeftAlone d.alone d.first.moment
    ++ of_all Overloaded d.overloaded d.first.moment
    ++ map sign_placed (of_tasks limits tables.now d.passed tables.tasks)

-- all that is odd, worst first
unfoldable pub findings_of : Limits → Standing → TablesView → List Placed
findings_of limits d tables = fold put_in [] (all_odd limits d tables)

-- who waited longest for a place, where others waited for it
abbrev pub whom_by : Shape → Option (List ℕ × ℕ) → Option (List ℕ × ℕ)
whom_by shapes.Held victim = victim
whom_by other victim = None

-- a finding, with who waited longest for its place
abbrev pub with_whom : Pairs → Placed → Told
with_whom pairs x = (x, whom_by (shape_of x.1.kind) (most_held x.0 pairs))

-- all that is odd, worst first, each with who waited longest for it
abbrev pub told_of : Limits → Standing → TablesView → List Told
told_of limits d tables = map (with_whom d.pairs) (findings_of limits d tables)
