-- The places of a stream's tasks, as rows of a table.
use Rattle.std.specs.Prelude.{ℕ, ◌+◌, ◌-◌, ◌==◌, nat_lt, suc, List, [], ◌∷◌, length, drop, take, slice_get, map, fold, Bool, false, if◌then◌else◌, Option, Some, None}
use Rattle.std.specs.List.{insert}
use Rattle.std.specs.Option.{option_map_or}
use Rattle.std.specs.Str.{bytes_eq}
use Rattle.tk_odd.specs.Places.{is_digit}
use Rattle.tk_odd.specs.declared.held.Held.{Held}
use Rattle.tk_series.specs.Limited.{LimitedView}
use Rattle.tk_sites.specs.Lines.{listed}
use Rattle.tk_sites.specs.declared.sums.Sums.{Sums}
use Rattle.tk_frame.specs.declared.places.Figures.{Figures}
use Rattle.tk_frame.specs.declared.places.Place.{Place}
use Rattle.tk_frame.specs.declared.recent.Earlier.{Earlier}
use Rattle.tk_frame.specs.declared.recent.Recent.{Recent}

-- ---- the parts of a place's text, as in `spawn at src/main.rs:21:5 name worker-#`

-- what stands behind its kind: behind the first space, and `at ` after that
abbrev pub behind_kind : List ℕ → List ℕ
behind_kind [] = []
behind_kind (c ∷ cs) = if c == 32 then drop 3 cs else behind_kind cs

-- where the last digit of a text ends, of which so many bytes came before, and the last digit so far ended there
abbrev pub digits_end : ℕ → ℕ → List ℕ → ℕ
digits_end at end [] = end
digits_end at end (c ∷ cs) = digits_end (at + 1) (if is_digit c then at + 1 else end) cs

-- where its tasks were spawned: that ends with the last digit, since the name of a place has none
abbrev pub location_in : List ℕ → List ℕ
location_in site = take (digits_end 0 0 (behind_kind site)) (behind_kind site)

-- what stands behind that: ` name ` and a name, or nothing
abbrev pub behind_location : List ℕ → List ℕ
behind_location site = drop (digits_end 0 0 (behind_kind site)) (behind_kind site)

-- the name of its tasks, but for numbers
abbrev pub name_in : List ℕ → List ℕ
name_in site = drop 6 (behind_location site)

-- ---- a place

-- a place's text, and what its tasks came to
abbrev pub PlaceRow : Type 0
PlaceRow = List ℕ × Figures

abbrev pub row_of : Place → PlaceRow
row_of p = (p.site.items, p.figures)

-- what is known of these labels among those that held up others
abbrev pub held_of : List ℕ → List (List ℕ × Held) → Option Held
held_of key [] = None
held_of key (x ∷ xs) = if bytes_eq x.0 key then Some x.1 else held_of key xs

-- the figures of the place of a number
abbrev pub figures_by : ℕ → Sums → Option Held → Figures
figures_by number sums held = record {
  number = number;
  sums = sums;
  held_up = option_map_or (λ (h : Held). h.charged) held 0;
  longest = option_map_or (λ (h : Held). h.longest) held 0;
}

abbrev pub place_at : List (List ℕ × Held) → ℕ → List ℕ × Sums → PlaceRow
place_at held number x = (x.0, figures_by number x.1 (held_of x.0 held))

-- places with their numbers, which begin here
abbrev pub numbered_from : List (List ℕ × Held) → ℕ → List (List ℕ × Sums) → List PlaceRow
numbered_from held n [] = []
numbered_from held n (x ∷ xs) = place_at held n x ∷ numbered_from held (n + 1) xs

-- ---- their order

-- the numbers by which places are sorted, one after the other: for how long others waited while their tasks ran, how long these waited, and ran, their
-- longest poll, and how many polls, wakes and wakes of their own they had
abbrev pub numbers_of : Figures → List ℕ
numbers_of f = f.held_up ∷ f.sums.waited ∷ f.sums.busy ∷ f.longest ∷ f.sums.polls ∷ f.sums.wakes ∷ f.sums.own ∷ []

-- of the first two numbers that differ, the first list has the greater one
abbrev pub is_greater : List ℕ → List ℕ → Bool
is_greater [] ys = false
is_greater (x ∷ xs) [] = false
is_greater (x ∷ xs) (y ∷ ys) = if x == y then is_greater xs ys else nat_lt y x

abbrev pub stands_before : Figures → Figures → Bool
stands_before a b = is_greater (numbers_of a) (numbers_of b)

-- how many of a list a place goes after
abbrev pub rank : List PlaceRow → Figures → ℕ
rank [] x = 0
rank (y ∷ ys) x = if stands_before x y.1 then 0 else suc (rank ys x)

-- a place put in its place, after those that are equal to it
abbrev pub put_in : List PlaceRow → PlaceRow → List PlaceRow
put_in ys x = insert ys (rank ys x.1) x

-- all places, and what found no room among them as one more, in their order
abbrev pub places_in : LimitedView Sums → List (List ℕ × Held) → List PlaceRow
places_in sites held = fold put_in [] (numbered_from held 0 (listed sites))

-- ---- what places came to since an earlier moment

-- what all places but the first had come to, which stand behind these as one more, if they have this number
abbrev pub rest_then : Earlier → ℕ → Option Sums
rest_then e n = if n == length e.sites.first then e.sites.rest else None

-- what the place of a number had come to, if it was there
abbrev pub sums_then : Earlier → ℕ → Option Sums
sums_then e n = option_map_or (λ (x : List ℕ × Sums). Some x.1) (slice_get e.sites.first n) (rest_then e n)

-- what tasks came to since they had come to this. How many there are in each state, how many came, and how many left stays as it is now
abbrev pub sums_since : Sums → Sums → Sums
sums_since old s = record s {
  polls = s.polls - old.polls;
  wakes = s.wakes - old.wakes;
  own = s.own - old.own;
  clones = s.clones - old.clones;
  drops = s.drops - old.drops;
  busy = s.busy - old.busy;
  sched = s.sched - old.sched;
  waited = s.waited - old.waited;
}

-- the same, where they had come to something
abbrev pub sums_by : Option Sums → Sums → Sums
sums_by old s = option_map_or (λ was. sums_since was s) old s

-- what was known then of those that held up others: 0 where nothing was
abbrev pub charged_of : Option Held → ℕ
charged_of held = option_map_or (λ (h : Held). h.charged) held 0

abbrev pub longest_of : Option Held → ℕ
longest_of held = option_map_or (λ (h : Held). h.longest) held 0

-- the longest poll, where none was known then that was as long. Else nothing is known of it
abbrev pub longest_since : ℕ → ℕ → ℕ
longest_since old n = if nat_lt old n then n else 0

-- figures since there were these sums, and this was known of a place that held up others
abbrev pub figures_since : Option Sums → Option Held → Figures → Figures
figures_since sums held f = record {
  number = f.number;
  sums = sums_by sums f.sums;
  held_up = f.held_up - charged_of held;
  longest = longest_since (longest_of held) f.longest;
}

-- a place since an earlier moment
abbrev pub place_since : Earlier → PlaceRow → PlaceRow
place_since e p = (p.0, figures_since (sums_then e p.1.number) (held_of p.0 e.held) p.1)

-- places since an earlier moment, in the order of what they came to since
abbrev pub places_since : Earlier → List PlaceRow → List PlaceRow
places_since e places = fold put_in [] (map (place_since e) places)

-- what places came to in the last while, and how long that is
pub record RecentView : Type 0 where
  pub places : List PlaceRow
  pub time : ℕ

abbrev pub recent_of : Recent → RecentView
recent_of r = record { places = map row_of r.places.items; time = r.time }

-- the same of these places, since an earlier moment to another
abbrev pub recent_since : Earlier → ℕ → List PlaceRow → RecentView
recent_since e now places = record { places = places_since e places; time = now - e.moment }
