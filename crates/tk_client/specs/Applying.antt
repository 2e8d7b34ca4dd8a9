-- What the parts of a client answer, and what each makes of tables. No public clause cites this.
use Rattle.std.specs.Prelude.{◌≡◌, ℕ, ◌+◌, ◌==◌, List, [], ◌∷◌, ◌++◌, length, Bool, true, false, ◌||◌, not, nat_eq, is_some, if◌then◌else◌, map, filter, Option, Some, None, option_map, option_and_then, Result, Ok, Err, refl}
use Rattle.std.specs.List.{list_any, list_all, IsDistinct}
use Rattle.std.specs.Option.{option_map_or}
use Rattle.tk_stream.specs.Applied.{Kind, task_kind, resource_kind, op_kind, told_item, new_items, counts_after, without_gone}
use Rattle.tk_stream.specs.Lines.{LineView, GoneView, is_new}
use Rattle.tk_stream.specs.Places.{place_with}
use Rattle.tk_stream.specs.Spelling.{line_end}
use Rattle.tk_stream.specs.Tables.{TablesView, PollCounts, counts_id, item_with, changed_at}
use Rattle.tk_client.specs.declared.fault.Fault.{Fault}
use Rattle.tk_client.specs.declared.fault.Fault.TheVariants.{Memory, Misfit}
use Rattle.tk_client.specs.Feeding.{ClientView, Took}
use Rattle.tk_client.specs.Meaning.{stops, meaning}
use Rattle.tk_client.specs.Taking.{has_id, has_twice}
use Rattle.tk_client.specs.declared.taking.Finding.{Finding}
use Rattle.tk_client.specs.declared.taking.Finding.TheVariants.{Sound, Strange, Repeats}

-- a fault that was to be answered is answered, unless memory ran out
abbrev pub Fails : {A : Type 0} → Fault → Result A Fault → Type 0
Fails Memory wanted = Unit {0}
Fails fault wanted = wanted ≡ Err fault

-- a call that was to answer this answers it, seen by view, unless memory ran out
abbrev pub Answers : {X A : Type 0} → (X → A) → Result X Fault → Result A Fault → Type 0
Answers view (Ok x) wanted = wanted ≡ Ok (view x)
Answers view (Err fault) wanted = Fails fault wanted

-- why a line end was not taken: there was no memory, and all is as before; or the line has a fault
abbrev pub EndedBy : Fault → ClientView → ClientView → Type 0
EndedBy Memory old new = new ≡ old
EndedBy fault old new = (meaning old.max_line old.start (line_end ∷ []) ≡ stops old.start.tables 0 fault 1) × (new ≡ record old { has_failed = true })

-- what a line end did: the line was taken, or not
abbrev pub Ended : {A : Type 0} → ClientView → Result A Fault → ClientView → Type 0
Ended old (Ok done) new = Took old (line_end ∷ []) 1 new
Ended old (Err fault) new = EndedBy fault old new

-- why a whole line and its end were not taken: there was no memory, and all is as before; or the line has a fault
abbrev pub EndedWholeBy : Fault → ClientView → List ℕ → ClientView → Type 0
EndedWholeBy Memory old line new = new ≡ old
EndedWholeBy fault old line new =
    (meaning old.max_line old.start (line ++ line_end ∷ []) ≡ stops old.start.tables 0 fault (length line + 1)) × (new ≡ record old { has_failed = true })

-- what a whole line and its end did
abbrev pub EndedWhole : {A : Type 0} → ClientView → List ℕ → Result A Fault → ClientView → Type 0
EndedWhole old line (Ok done) new = Took old (line ++ line_end ∷ []) 1 new
EndedWhole old line (Err fault) new = EndedWholeBy fault old line new

-- ---- items of one kind

-- the id of an item
abbrev pub id_by : {Item Info Stats : Type 0} → Kind Item Info Stats → Item → ℕ
id_by k item = k.id_of item

-- the id of an info
abbrev pub info_id_by : {Item Info Stats : Type 0} → Kind Item Info Stats → Info → ℕ
info_id_by k info = k.info_id info

-- the id of which something is told
abbrev pub stats_id_by : {Item Info Stats : Type 0} → Kind Item Info Stats → Stats → ℕ
stats_id_by k s = k.stats_id s

-- a new item with what is told of it
abbrev pub made : {Item Info Stats : Type 0} → Kind Item Info Stats → Info → Stats → Item
made k info s = k.item_of info s

-- what is told of an id
abbrev pub told_of : {Item Info Stats : Type 0} → Kind Item Info Stats → List Stats → ℕ → Option Stats
told_of k stats id = item_with k.stats_id id stats

-- whether there is an item of an info's id
abbrev pub has_info : {Item Info Stats : Type 0} → Kind Item Info Stats → List Item → Info → Bool
has_info k items info = has_id k.id_of (k.info_id info) items

-- whether there is an item of that id of which something is told
abbrev pub has_told : {Item Info Stats : Type 0} → Kind Item Info Stats → List Item → Stats → Bool
has_told k items s = has_id k.id_of (k.stats_id s) items

-- whether there is an item of an id
abbrev pub has_item : {Item Info Stats : Type 0} → Kind Item Info Stats → List Item → ℕ → Bool
has_item k items id = has_id k.id_of id items

-- an id is of no item
abbrev pub is_missing : {Item Info Stats : Type 0} → Kind Item Info Stats → List Item → ℕ → Bool
is_missing k items id = not (has_item k items id)

-- what is told is of an item that is gone
abbrev pub is_leaving : {Item Info Stats : Type 0} → Kind Item Info Stats → List ℕ → Stats → Bool
is_leaving k gone s = list_any (λ n. k.stats_id s == n) gone

-- an item with what is told of it
abbrev pub retold : {Item Info Stats : Type 0} → Kind Item Info Stats → Stats → Item → Item
retold k s item = k.item_of (k.info_of item) s

-- items with what is told, if anything is, at a place
abbrev pub retold_at : {Item Info Stats : Type 0} → Kind Item Info Stats → List Item → ℕ → Option Stats → List Item
retold_at k items i (Some s) = changed_at (retold k s) items i
retold_at k items i None = items

-- tables with new items after the old ones, where each of the new has something told of it
abbrev pub with_new : {Item : Type 0} → (TablesView → List Item → TablesView) → TablesView → List Item → Option (List Item) → Result TablesView Fault
with_new put tables old (Some items) = Ok (put tables (old ++ items))
with_new put tables old None = Err Misfit

-- tables, or a misfit where there are none
abbrev pub or_misfit : Option TablesView → Result TablesView Fault
or_misfit (Some tables) = Ok tables
or_misfit None = Err Misfit

-- the place of the item of which something is told
abbrev pub place_by : {Item Info Stats : Type 0} → Kind Item Info Stats → List Item → Stats → Option ℕ
place_by k items s = place_with k.id_of (k.stats_id s) items

-- what is told is of an item that is neither there nor among these ids
abbrev pub is_stranger : {Item Info Stats : Type 0} → Kind Item Info Stats → List Item → List ℕ → Stats → Bool
is_stranger k items ids s = not (has_told k items s || list_any (λ n. k.stats_id s == n) ids)

-- items with what is told of one of them, where it is there
abbrev pub retold_by : {Item Info Stats : Type 0} → Kind Item Info Stats → List Item → Stats → List Item
retold_by k items s = option_map_or (λ i. changed_at (retold k s) items i) (place_by k items s) items

-- no item stands twice
abbrev pub HaveOneId : {Item Info Stats : Type 0} → Kind Item Info Stats → List Item → Type 0
HaveOneId k items = IsDistinct nat_eq (map k.id_of items)

-- what is told of an item fits it, if the item is there
abbrev pub fits_told : {Item Info Stats : Type 0} → Kind Item Info Stats → (Item → Bool) → List Item → Stats → Bool
fits_told k fits items s = option_map_or (λ item. fits (retold k s item)) (item_with k.id_of (k.stats_id s) items) true

-- ---- a line's parts

-- a line as it is without what it says is gone
abbrev pub told_part : LineView → LineView
told_part l = record l { gone = None }

-- what was made of tables, of which then these items leave
abbrev pub left_by : GoneView → Result TablesView Fault → Result TablesView Fault
left_by gone (Ok tables) = Ok (without_gone tables gone)
left_by gone (Err fault) = Err fault

-- ---- items that are told whole

-- a kind of items that are told whole
abbrev pub keyed_kind : {Item : Type 0} → (Item → ℕ) → Kind Item ℕ Item
keyed_kind id_of = record {
  id_of = id_of;
  info_of = id_of;
  info_id = λ id. id;
  stats_id = id_of;
  item_of = λ id c. c;
}

-- items that are there with what is told of them, and after them the new ones
abbrev pub keyed_after : {Item : Type 0} → (Item → ℕ) → List Item → List Item → List Item
keyed_after id_of old told = map (told_item (keyed_kind id_of) told) old ++ filter (is_new id_of old) told

-- items with this one after them, where none has its id
abbrev pub key_added : {Item : Type 0} → (Item → ℕ) → Item → List Item → List Item
key_added id_of c items = if is_some (item_with id_of (id_of c) items) then items else items ++ c ∷ []

-- each item that is told is there
abbrev pub AreKeyed : {Item : Type 0} → (Item → ℕ) → List Item → List Item → Type 0
AreKeyed id_of items told = list_all (λ c. is_some (item_with id_of (id_of c) items)) told ≡ true

-- ---- growth

-- a list that begins with another one
abbrev pub Begins : {A : Type 0} → List A → List A → Type 0
Begins [] ys = Unit {0}
Begins (x ∷ xs) [] = ⊥
Begins (x ∷ xs) (y ∷ ys) = (y ≡ x) × Begins xs ys

pub begins_same : {A : Type 0} (xs : List A) → Begins xs xs
begins_same [] = tt
begins_same (x ∷ xs) = (refl, begins_same xs)

-- tables with more items and counts after the old ones, and nothing else
pub record Grown (old new : TablesView) : Type 0 where
  pub tasks : Begins old.tasks new.tasks
  pub resources : Begins old.resources new.resources
  pub ops : Begins old.ops new.ops
  pub counts : Begins old.counts new.counts
  pub dropped : new.dropped ≡ old.dropped
  pub now : new.now ≡ old.now

-- the tables with the new items of a line after the old ones, each with what is told of it, and with its new counts
abbrev pub tables_grown : TablesView → LineView → Option TablesView
tables_grown old l =
    option_and_then (λ tasks. option_and_then (λ resources. option_map (λ ops. record old {
      tasks = old.tasks ++ tasks;
      resources = old.resources ++ resources;
      ops = old.ops ++ ops;
      counts = old.counts ++ filter (is_new counts_id old.counts) l.poll_counts;
    }) (new_items op_kind l.op_stats l.new_ops))
    (new_items resource_kind l.resource_stats l.new_resources))
    (new_items task_kind l.task_stats l.new_tasks)

-- ---- the parts of a line

-- a line that has given the infos of its new items away
abbrev pub spent : LineView → LineView
spent l = record l { new_ops = []; new_resources = []; new_tasks = [] }

-- counts with these after them, where their resource has none
abbrev pub count_added : PollCounts → List PollCounts → List PollCounts
count_added c counts = if is_some (item_with counts_id c.0 counts) then counts else counts ++ c ∷ []

-- each resource whose counts are told has some
abbrev pub AreCounted : List PollCounts → List PollCounts → Type 0
AreCounted counts told = list_all (λ c. is_some (item_with counts_id c.0 counts)) told ≡ true

-- in none of its lists does a line tell of an id twice
pub record TellsOnce (l : LineView) : Type 0 where
  pub tasks : has_twice (map (stats_id_by task_kind) l.task_stats) ≡ false
  pub resources : has_twice (map (stats_id_by resource_kind) l.resource_stats) ≡ false
  pub ops : has_twice (map (stats_id_by op_kind) l.op_stats) ≡ false
  pub counts : has_twice (map counts_id l.poll_counts) ≡ false

-- tables whose items take what a line tells of them
abbrev pub tables_told : TablesView → LineView → TablesView
tables_told old l = record {
  tasks = map (told_item task_kind l.task_stats) old.tasks;
  resources = map (told_item resource_kind l.resource_stats) old.resources;
  ops = map (told_item op_kind l.op_stats) old.ops;
  counts = counts_after old.counts l.poll_counts;
  dropped = l.dropped;
  now = l.now;
}

-- what is found, where an id is repeated or not, and where an item that is told of is strange or not
abbrev pub finding : Bool → Bool → Finding
finding true strange = Repeats
finding false true = Strange
finding false false = Sound

-- of two findings the one that is answered first
abbrev pub worse : Finding → Finding → Finding
worse Repeats b = Repeats
worse Strange Repeats = Repeats
worse Strange Strange = Strange
worse Strange Sound = Strange
worse Sound b = b
