-- What is odd about a task.
use Rattle.std.specs.Prelude.{◌≡◌, ◌==◌, List, [], ◌∷◌, map, take, Bool, true, false, ◌&&◌, ◌||◌, not}
use Rattle.std.specs.List.{list_any}
use Rattle.std.specs.Option.{option_map_or}
use Rattle.tk_client.specs.Warnings.{has_lost_waker, has_never_yielded, is_spawn, wakes_itself}
use Rattle.tk_odd.specs.Findings.{Told, is_never_polled, told}
use Rattle.tk_odd.specs.declared.finding.Found.{Found}
use Rattle.tk_odd.specs.declared.finding.OddKind.{OddKind}
use Rattle.tk_odd.specs.declared.finding.OddKind.TheVariants.{NeverYielded, LostWaker, NeverPolled, SelfWakes}
use Rattle.tk_odd.specs.declared.limits.Limits.{Limits}
use Rattle.tk_stream.specs.Tables.{TablesView}
use Rattle.tk_stream.specs.declared.tables.task.Task.{Task}
use Rattle.tk_page.specs.declared.oddities.Signs.{Signs}

-- tasks of tables are looked at for this: by these limits, and with these findings
pub record AreSigns (limits : Limits) (list : List Told) (tables : TablesView) (signs : Signs) : Type 0 where
  pub moment : signs.moment ≡ tables.now
  pub measures : signs.limits ≡ limits
  pub findings : map told signs.findings.items ≡ list

-- the findings that have cards: the first 20
abbrev pub carded : Signs → List Found
carded signs = take 20 signs.findings.items

-- a finding names a task
abbrev pub names : Task → Found → Bool
names t f = option_map_or (λ id. id == t.info.id) f.finding.task false

-- a card names a task
abbrev pub is_named : Signs → Task → Bool
is_named signs t = list_any (names t) (carded signs)

-- a task's row shows such a thing
abbrev pub is_of_rows : OddKind → Bool
is_of_rows NeverYielded = true
is_of_rows LostWaker = true
is_of_rows NeverPolled = true
is_of_rows SelfWakes = true
is_of_rows other = false

-- a finding says of a task what its row doesn't show
abbrev pub says : Task → Found → Bool
says t f = names t f && not (is_of_rows f.finding.kind)

-- nobody can wake a task
abbrev pub is_lost : Task → Bool
is_lost t = is_spawn t.info.kind && has_lost_waker t.row

-- this shows a task's row: what the client warns of, and that it was never polled
abbrev pub has_sign : Signs → OddKind → Task → Bool
has_sign signs NeverYielded t = is_spawn t.info.kind && has_never_yielded signs.limits.lints.never_yielded_ns signs.moment t.row
has_sign signs LostWaker t = is_lost t
has_sign signs NeverPolled t = is_spawn t.info.kind && is_never_polled signs.limits.lints.never_yielded_ns signs.moment t.row
has_sign signs SelfWakes t = is_spawn t.info.kind && wakes_itself signs.limits.lints.self_wake_percent t.row
has_sign signs other t = false

-- what a row may show, in the order of its badges
abbrev pub row_kinds : List OddKind
row_kinds = NeverYielded ∷ LostWaker ∷ NeverPolled ∷ SelfWakes ∷ []

-- something is odd about a task
abbrev pub is_odd_at_all : Signs → Task → Bool
is_odd_at_all signs t = is_named signs t || list_any (λ kind. has_sign signs kind t) row_kinds
