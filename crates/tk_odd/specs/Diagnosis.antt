-- Line by line: what a stream's steps came to.
use Rattle.std.specs.Prelude.{ℕ, ◌+◌, ◌-◌, ◌==◌, nat_le, max, Bool, true, false, ◌&&◌, not, List, [], ◌∷◌, ◌++◌, map, filter, fold, Option, Some, None, if◌then◌else◌}
use Rattle.std.specs.Option.{option_map_or}
use Rattle.tk_core.specs.Lists.{capped}
use Rattle.tk_series.specs.Series.{with_value}
use Rattle.tk_stream.specs.Tables.{TablesView, empty_tables, is_among}
use Rattle.tk_odd.specs.declared.apart.Stretch.{Stretch}
use Rattle.tk_odd.specs.declared.free.Free.{Free}
use Rattle.tk_odd.specs.declared.held.Held.{Held}
use Rattle.tk_odd.specs.declared.limits.Limits.{Limits}
use Rattle.tk_odd.specs.declared.moved.Moved.{Moved}
use Rattle.tk_odd.specs.declared.shares.Shares.{Shares}
use Rattle.tk_odd.specs.Charging.{all_charged, charge_of, queued}
use Rattle.tk_odd.specs.Members.{Member, looked_at, members_after, moved_of}
use Rattle.tk_odd.specs.Sharing.{nobody}
use Rattle.tk_odd.specs.Victims.{Pairs, pairs_after}
use Rattle.tk_odd.specs.Steps.{are_left_alone, free_after, is_overloaded, is_passed, stood_still}
use Rattle.tk_odd.specs.Waiters.{WaitersView, no_waiters, waiters_of}

-- ---- places

-- a place with numbers more
abbrev pub plus_held : Held → Held → Held
plus_held a b = record {
  charged = capped (a.charged + b.charged);
  still = capped (a.still + b.still);
  since = option_map_or (λ m. Some m) a.since b.since;
  until = max a.until b.until;
  longest = max a.longest b.longest;
  task = if nat_le b.longest a.longest then a.task else b.task;
  tasks = capped (a.tasks + b.tasks);
}

-- what a task that is charged with this, and stood still or not, adds to its place in a step from one moment to another
abbrev pub held_in : ℕ → ℕ → ℕ → Bool → Bool → Moved → Held
held_in from to charge still first x = record {
  charged = charge;
  still = if still then x.gain.ran else 0;
  since = if charge == 0 then None else Some from;
  until = if charge == 0 then 0 else to;
  longest = x.gain.longest;
  task = x.task;
  tasks = if first then 1 else 0;
}

-- places, and the ids of the tasks that were charged
abbrev pub Places : Type 0
Places = List (List ℕ × Held) × List ℕ

-- a task is charged for the first time
abbrev pub is_first : List ℕ → ℕ → ℕ → Bool
is_first guilty charge id = nat_le 1 charge && not (is_among guilty id)

-- places after a step, as far as one task says, which is charged with this
abbrev pub with_member : ℕ → ℕ → ℕ → Bool → Places → Member → Places
with_member from to charge still (places, guilty) x = (
  with_value plus_held x.1 (held_in from to charge still (is_first guilty charge x.0) x.2) places,
  if is_first guilty charge x.0 then guilty ++ x.0 ∷ [] else guilty,
)

-- the same, where it is one of those who ran or waited in the step
abbrev pub with_one : ℕ → Free → ℕ → ℕ → List Moved → Places → Member → Places
with_one long free from to moved places x =
    with_member from to (capped (charge_of long (to - from) to moved x.2)) (stood_still long free moved x.2) places x

-- places after a step from one moment to another
abbrev pub places_after : ℕ → Free → ℕ → ℕ → List Member → Places → Places
places_after long free from to members places =
    let moved = moved_of members in
    fold (with_one long free from to moved) places (looked_at members)

-- ---- line by line

-- what stands after some lines: how many there were, who waited at the begin of the step that isn't over, the tables of the last line, who ran or waited in
-- that step, the places and who was charged, who waited for whom, what free steps were like, what was waited, when tasks waited and no task was to blame, and who was
-- passed over in the last step
pub record Standing : Type 0 where
  pub lines : ℕ
  pub first : WaitersView
  pub before : TablesView
  pub members : List Member
  pub places : Places
  pub pairs : Pairs
  pub free : Free
  pub shares : Shares
  pub overloaded : Option Stretch
  pub alone : Option Stretch
  pub passed : List ℕ

-- nothing yet
abbrev pub nothing : Standing
nothing = record {
  lines = 0;
  first = no_waiters;
  before = empty_tables;
  members = [];
  places = ([], []);
  pairs = [];
  free = record { polls = 0; time = 0; lull = 0; longest = 0 };
  shares = record { charged = 0; queued = 0; nobody = 0 };
  overloaded = None;
  alone = None;
  passed = [];
}

-- from the first step of a kind to the last
abbrev pub also : Bool → ℕ → ℕ → Option Stretch → Option Stretch
also false from to span = span
also true from to span = Some (record { from = option_map_or (λ (s : Stretch). s.from) span from; to = to })

-- what was waited, with a step more
abbrev pub with_shares : ℕ → ℕ → ℕ → List Moved → Shares → Shares
with_shares long time now moved s = record {
  charged = capped (s.charged + all_charged long time now moved);
  queued = capped (s.queued + queued long time now moved);
  nobody = capped (s.nobody + nobody moved);
}

-- a step ends with these tables
abbrev pub ends : Limits → Standing → TablesView → Standing
ends limits d tables =
    let moved = moved_of d.members in
    let long = limits.long in
    let wait = limits.lints.never_yielded_ns in
    let from = d.first.moment in
    let time = tables.now - from in
    record d {
      places = places_after long d.free from tables.now d.members d.places;
      pairs = pairs_after long time tables.now d.members d.pairs;
      free = free_after long time moved d.free;
      shares = with_shares long time tables.now moved d.shares;
      overloaded = also (is_overloaded long wait time tables.now d.first moved) from tables.now d.overloaded;
      alone = also (are_left_alone long wait d.first moved) from tables.now d.alone;
      passed = map (λ x. x.task) (filter (is_passed wait d.first moved) moved);
    }

-- a step begins with these tables
abbrev pub begins : Standing → TablesView → Standing
begins d tables = record d { first = waiters_of tables; members = [] }

-- the first line: what was before it is in no step
abbrev pub opens : Standing → TablesView → Standing
opens d tables = begins (record d { lines = 1; before = tables }) tables

-- a line more of a step
abbrev pub goes_on : Standing → TablesView → Standing
goes_on d tables = record d { lines = capped (d.lines + 1); before = tables; members = members_after d.before tables d.members }

-- a step is over once it is as long as a long poll
abbrev pub is_over : Limits → Standing → TablesView → Bool
is_over limits d tables = nat_le limits.long (tables.now - d.first.moment)

-- a line more
abbrev pub after_line : Limits → Standing → TablesView → Standing
after_line limits d tables =
    if d.lines == 0 then opens d tables else
    (if is_over limits d tables then begins (ends limits (goes_on d tables) tables) tables else goes_on d tables)

-- what stands after lines
unfoldable pub standing_of : Limits → List TablesView → Standing
standing_of limits shown = fold (after_line limits) nothing shown
