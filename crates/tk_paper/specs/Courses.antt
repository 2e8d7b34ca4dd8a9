-- What is kept of a list that is given item by item.
use Rattle.std.specs.Prelude.{◌≡◌, ℕ, ◌+◌, ◌-◌, ◌*◌, ◌^◌, ◌≤◌, ◌<◌, ◌==◌, if◌then◌else◌, List, [], ◌∷◌, ◌++◌, length, get_or, fold, min}

-- of a list, which is given item by item, these items are kept: every k-th from the first on, at most 64, and at least 32 where k
-- isn't 1. So many more come before the next that is kept
pub record KeepsEach {A : Type 0} (xs kept : List A) (every skip : ℕ) : Type 0 where
  pub few : length kept ≤ 64
  pub many : 1 < every → 32 ≤ length kept
  -- item i of those that are kept is item i * every of the list
  pub each : (d : A) (i : ℕ) → i < length kept → get_or kept i d ≡ get_or xs (i * every) d
  -- all such items of the list are kept
  pub come : length xs + skip ≡ length kept * every
  pub short : skip < every

-- the items that are kept, k, and how many more come before the next that is kept
pub record CourseView (A : Type 0) : Type 0 where
  pub kept : List A
  pub every : ℕ
  pub skip : ℕ

-- this is kept of a list
abbrev pub IsCourse : {A : Type 0} → List A → CourseView A → Type 0
IsCourse xs c = KeepsEach xs c.kept c.every c.skip

-- ---- one item after the other

-- no items
abbrev pub no_items : {A : Type 0} → CourseView A
no_items = record { kept = []; every = 1; skip = 0 }

-- every second item, from the first on
abbrev pub every_second : {A : Type 0} → List A → List A
every_second [] = []
every_second (x ∷ []) = x ∷ []
every_second (x ∷ y ∷ xs) = x ∷ every_second xs

-- a course that has room for another item: of 64 items every second one is let go, and k is doubled
abbrev pub with_room : {A : Type 0} → CourseView A → CourseView A
with_room c = if length c.kept == 64 then record { kept = every_second c.kept; every = min (c.every * 2) (2 ^ 64 - 1); skip = c.skip } else c

-- a course that keeps the next item
abbrev pub with_kept : {A : Type 0} → CourseView A → A → CourseView A
with_kept c x = record { kept = c.kept ++ x ∷ []; every = c.every; skip = c.every - 1 }

-- a course with one item more, whether it is kept or not
abbrev pub with_item : {A : Type 0} → CourseView A → A → CourseView A
with_item c x = if c.skip == 0 then with_kept (with_room c) x else record { kept = c.kept; every = c.every; skip = c.skip - 1 }

-- a course with these items more
abbrev pub with_items : {A : Type 0} → CourseView A → List A → CourseView A
with_items c xs = fold with_item c xs
