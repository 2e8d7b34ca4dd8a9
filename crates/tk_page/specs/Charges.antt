-- For how long each place had held up others, line by line, and which places did so longest.
use Rattle.std.specs.Prelude.{◌≡◌, ℕ, ◌+◌, ◌-◌, ◌^◌, ◌==◌, ◌≤◌, true, if◌then◌else◌, List, [], ◌∷◌, ◌++◌, flat_map, get_or, length, map, slice_get, take}
use Rattle.std.specs.List.Sorted.{IsPermutation}
use Rattle.std.specs.Option.{option_map_or}
use Rattle.tk_odd.specs.Diagnosis.{Standing, after_line, nothing, standing_of}
use Rattle.tk_odd.specs.Inner.{Follows}
use Rattle.tk_odd.specs.declared.held.Held.{Held}
use Rattle.tk_odd.specs.declared.limits.Limits.{Limits}
use Rattle.tk_paper.specs.Courses.{CourseView, IsCourse, with_item}
use Rattle.tk_stream.specs.Tables.{TablesView}
use Rattle.tk_page.specs.declared.blame.Blame.{Blame}
use Rattle.tk_page.specs.declared.blame.Charge.{Charge}
use Rattle.tk_page.specs.declared.blamed.Blamed.{Blamed}
use Rattle.tk_page.specs.declared.ranks.Rank.{Rank}
use Rattle.tk_page.specs.Ranks.{AreInOrder, ranks_from}

-- ---- after each line

-- places in the order in which they first came, and for how long each held up others
abbrev pub Places : Type 0
Places = List (List ℕ × Held)

-- what the place that came as that one is charged with; nothing before it came
abbrev pub charged_at : Places → ℕ → ℕ
charged_at places i = option_map_or (λ (x : List ℕ × Held). x.1.charged) (slice_get places i) 0

-- the same at a moment
abbrev pub charge_at : ℕ → Places → ℕ → Charge
charge_at now places i = record { now = now; charged = charged_at places i }

-- what it was charged with after each of these lines, after what stood before them
unfoldable pub charges_from : Limits → ℕ → Standing → List TablesView → List Charge
charges_from limits i d [] = []
charges_from limits i d (tables ∷ more) =
    charge_at tables.now (after_line limits d tables).places.0 i ∷ charges_from limits i (after_line limits d tables) more

-- what the place that came as that one was charged with after each line
unfoldable pub charges_of : Limits → ℕ → List TablesView → List Charge
charges_of limits i shown = charges_from limits i nothing shown

-- the places after these lines
abbrev pub places_of : Limits → List TablesView → Places
places_of limits shown = (standing_of limits shown).places.0

-- ---- what is kept

-- what is kept of a place's charges
abbrev pub course_of : Blame → ℕ → CourseView Charge
course_of b i = get_or b.courses.items i b.none

-- what is kept tells of the tables after each line: what stands after them, and of each place the course of what it was charged with
pub record Blames (shown : List TablesView) (b : Blame) : Type 0 where
  pub follows : Follows shown b.diagnosis
  pub courses : (i : ℕ) → IsCourse (charges_of b.diagnosis.limits i shown) (course_of b i)

-- there is a course for so many places. Those that there were are the same, and another is that of a place that isn't there
pub record Grown (none : CourseView Charge) (len : ℕ) (old new : List (CourseView Charge)) : Type 0 where
  pub long : len ≤ length new
  pub same : (i : ℕ) → get_or new i none ≡ get_or old i none

-- each course has one item more: what its place is charged with at a moment
pub record Pushed (now : ℕ) (places : Places) (old new : List (CourseView Charge)) : Type 0 where
  pub long : length new ≡ length old
  pub each : (d : CourseView Charge) (i : ℕ) → i + 1 ≤ length old → get_or new i d ≡ with_item (get_or old i d) (charge_at now places i)

-- ---- the places that were charged most

-- the rank of a place: those that are charged with more come first, then those that came before
abbrev pub held_rank : ℕ → Held → Rank
held_rank place held = record { calm = true; below = 2 ^ 64 - 1 - held.charged; place = place }

-- the ranks of places, in the order in which they came
abbrev pub held_ranks_of : Places → List Rank
held_ranks_of places = ranks_from (λ place x. held_rank place x.1) 0 places

-- these ranks are those of all places, in order
pub record AreHeldRanks (places : Places) (ranks : List Rank) : Type 0 where
  pub all : IsPermutation (held_ranks_of places) ranks
  pub sorted : AreInOrder ranks

-- a place, what it is charged with, and what it was charged with up to some lines and up to the last
pub record BlamedView : Type 0 where
  pub place : List ℕ
  pub held : Held
  pub charges : List Charge

-- the same as a page has it
abbrev pub seen : Blamed → BlamedView
seen b = record { place = b.place.items; held = b.held; charges = b.charges.items }

-- a place that is charged; none where it is charged with nothing
abbrev pub blamed_as : ℕ → List Charge → List ℕ × Held → List BlamedView
blamed_as now kept x =
    if x.1.charged == 0 then [] else
    record { place = x.0; held = x.1; charges = kept ++ record { now = now; charged = x.1.charged } ∷ [] } ∷ []

-- the place of a rank, where it is charged
abbrev pub blamed_at : ℕ → Places → (ℕ → List Charge) → Rank → List BlamedView
blamed_at now places kept rank = option_map_or (blamed_as now (kept rank.place)) (slice_get places rank.place) []

-- the two places that are charged with most, of these ranks, where of each these charges are kept. Places that are charged with nothing are left out
abbrev pub blamed_of : ℕ → Places → (ℕ → List Charge) → List Rank → List BlamedView
blamed_of now places kept ranks = flat_map (blamed_at now places kept) (take 2 ranks)

-- these places are those
pub record AreBlamed (now : ℕ) (places : Places) (kept : ℕ → List Charge) (blamed : List Blamed) : Type 0 where
  pub ranks : List Rank
  pub ranked : AreHeldRanks places ranks
  pub are : map seen blamed ≡ blamed_of now places kept ranks

-- of a place's charges these are kept
pub record ChargesKept (xs kept : List Charge) : Type 0 where
  pub course : CourseView Charge
  pub is : IsCourse xs course
  pub shows : kept ≡ course.kept

-- these are the two places that were charged with most after these lines, of which the last was at this moment, each with the course of just its charges
pub record TellWhom (limits : Limits) (shown : List TablesView) (now : ℕ) (blamed : List Blamed) : Type 0 where
  pub kept : ℕ → List Charge
  pub courses : (i : ℕ) → ChargesKept (charges_of limits i shown) (kept i)
  pub are : AreBlamed now (places_of limits shown) kept blamed
