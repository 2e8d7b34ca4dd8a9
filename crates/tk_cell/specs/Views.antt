-- What a token knows: its ledger, the caller whose calls it makes, what it has seen, the numbers that it holds, and the opening row.
use Rattle.std.specs.Prelude.{ℕ, ◌+◌, ◌<◌, ◌≤◌, ◌==◌, not, filter, List, [], ◌∷◌, Option, Some, None, if◌then◌else◌}
use Rattle.atomic_table.specs.Seated.{TableId}
use Rattle.tk_cell.specs.declared.view.View.{View}

-- how often a number stands in a list
abbrev pub times : ℕ → List ℕ → ℕ
times n [] = 0
times n (k ∷ ks) = (if k == n then 1 else 0) + times n ks

-- no number stands in the list twice
abbrev pub IsDistinct : List ℕ → Type 0
IsDistinct ns = (n : ℕ) → times n ns ≤ 1

-- a list without a number
abbrev pub without : ℕ → List ℕ → List ℕ
without n ns = filter (λ k. not (k == n)) ns

-- the list of a number, if there is one
abbrev pub list_of : Option ℕ → List ℕ
list_of None = []
list_of (Some n) = n ∷ []

module _ {O C R : Type 0} where
  -- a token holds a number
  abbrev pub Holds : View O C R → ℕ → Type 0
  Holds v n = 0 < times n v.held

  -- the owner's view of a ledger that begins with this row: nothing is seen, and its own number held
  abbrev pub opened : O → View O C R
  opened row = record { caller = 0; seen = []; held = 0 ∷ []; opening = Some row }

  -- the view from which a number was split off: it holds that number no more
  abbrev pub after_split : ℕ → View O C R → View O C R
  after_split n v = record v { held = without n v.held }

  -- the view of a number that was split off: it has seen as much, and holds itself alone
  abbrev pub split_off : ℕ → View O C R → View O C R
  split_off n v = record v { caller = n; held = n ∷ [] }

  -- the view goes on as another caller whose number it holds
  abbrev pub as_caller : ℕ → View O C R → View O C R
  as_caller n v = record v { caller = n }

  -- what a view has seen, without its numbers
  abbrev pub unheld : View O C R → View O C R
  unheld v = record v { held = [] }

-- what contracts see of a token
pub record Known (O C R : Type 0) : Type 0 where
  -- the ledger that it is of
  pub ledger : TableId
  -- what is known by it
  pub view : View O C R

-- a token of this ledger, with this view
abbrev pub known : {O C R : Type 0} → TableId → View O C R → Known O C R
known ledger view = record { ledger = ledger; view = view }
