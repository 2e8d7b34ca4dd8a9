-- The rule of a buffer.
use Rattle.std.specs.Prelude.{◌≡◌, ℕ, ◌+◌, ◌<◌, ◌≤◌, List, [], ◌∷◌, ◌++◌, length, map, All, Option, Some, None}
use mathlib.Core.Option.{some}
use lib.ListN.{get_elem?}
use Rattle.tk_cell.specs.Views.{times}
use Rattle.tk_core.specs.Lists.{total}
use Rattle.tk_events.specs.Offers.{Item}
use Rattle.tk_events.specs.declared.item.Offer.{Offer}
use Rattle.tk_events.specs.declared.buffer.view.Role.{Role}
use Rattle.tk_events.specs.declared.buffer.view.Role.TheVariants.{Takes, Records, Spent}
use Rattle.tk_events.specs.declared.buffer.view.Returned.{Returned}
use Rattle.tk_events.specs.declared.buffer.view.View.{View}
use Rattle.tk_events.specs.Offers.{offers_of, by, Rises}

-- the view of the taker before it has made a recorder
abbrev pub first : View
first = record { role = Takes; recorders = 0; number = 0; kept = []; refused = []; gone = 0; made = 0; taken = []; known = [] }

-- a view that was handed on
abbrev pub spent : View
spent = record { role = Spent; recorders = 0; number = 0; kept = []; refused = []; gone = 0; made = 0; taken = []; known = [] }

-- a recorder offered something that the buffer keeps
abbrev pub keeps : View → Offer → View
keeps v o = record v { kept = v.kept ++ o ∷ [] }

-- a recorder offered something that the buffer refused
abbrev pub notes : Option Offer → View → View
notes None v = v
notes (Some o) v = record v { refused = v.refused ++ o ∷ [] }

-- the taker took something
abbrev pub takes : View → Offer → View
takes v o = record v { taken = v.taken ++ o ∷ [] }

-- the taker set how many recorders there may be
abbrev pub limits : Option ℕ → View → View
limits None v = v
limits (Some n) v = record v { recorders = n }

-- the taker made one more recorder, and the view of this recorder
abbrev pub makes : View → View
makes v = record v { made = v.made + 1 }

abbrev pub newborn : View → View
newborn v = record { role = Records; recorders = v.recorders; number = v.made + 1; kept = []; refused = []; gone = 0; made = 0; taken = []; known = [] }

-- what a recorder had offered
abbrev pub returned : View → Returned
returned v = record { number = v.number; kept = v.kept; refused = v.refused }

-- the taker took in what a recorder had offered
abbrev pub takes_in : View → View → View
takes_in v w = record v { known = v.known ++ returned w ∷ [] }

-- the taker gives back what it took in
abbrev pub gives_back : View → View
gives_back v = record v { known = [] }

-- the view of the one recorder that was taken in, as it was, but that it knows how many of its offers were taken
abbrev pub lent : ℕ → List Offer → List Returned → View
lent recorders taken (r ∷ []) = record { role = Records; recorders = recorders; number = r.number; kept = r.kept; refused = r.refused; gone = length (by r.number taken); made = 0; taken = []; known = [] }
lent recorders taken _ = spent

abbrev pub given_back : View → View
given_back v = lent v.recorders v.taken v.known

abbrev pub numbers_known : List Returned → List ℕ
numbers_known known = map (λ r. r.number) known

-- the numbers that a view answers for: the taker's own is 0
abbrev pub numbers_of : Role → View → List ℕ
numbers_of Takes v = 0 ∷ numbers_known v.known
numbers_of Records v = v.number ∷ []
numbers_of Spent v = []

abbrev pub holds : ℕ → View → ℕ
holds n v = times n (numbers_of v.role v)

-- a recorder that was joined had kept what was taken of it and what the buffer holds of it
pub record IsKnown (made : ℕ) (all : List Offer) (r : Returned) : Type 0 where
  pub low : 0 < r.number
  pub high : r.number ≤ made
  pub kept : by r.number all ≡ r.kept

-- what a recorder had kept, and that as many of its offers were taken as it knows of, or more
pub record IsRecorder (recorders made : ℕ) (taken all : List Offer) (v : View) : Type 0 where
  pub same : v.recorders ≡ recorders
  pub low : 0 < v.number
  pub high : v.number ≤ made
  pub kept : by v.number all ≡ v.kept
  pub gone : v.gone ≤ length (by v.number taken)

pub record IsTaker (recorders made : ℕ) (taken all : List Offer) (v : View) : Type 0 where
  pub same : v.recorders ≡ recorders
  pub made' : v.made ≡ made
  pub taken' : v.taken ≡ taken
  pub known : All (IsKnown made all) v.known

-- a view that was handed on may be anything
pub record IsPart (recorders made : ℕ) (taken all : List Offer) (v : View) : Type 0 where
  pub recorder : v.role ≡ Records → IsRecorder recorders made taken all v
  pub taker : v.role ≡ Takes → IsTaker recorders made taken all v

-- an offer of a recorder that was made
abbrev pub IsNamed : ℕ → Offer → Type 0
IsNamed made o = (0 < o.recorder) × (o.recorder ≤ made)

-- the rule: what was taken, and then what the buffer holds, is of each recorder what it kept; and no number has two views
pub record Kept (items : List Item) (views : List View) : Type 0 where
  pub recorders : ℕ
  pub made : ℕ
  pub taken : List Offer
  pub room : made ≤ recorders
  pub parts : (i : ℕ) (v : View) → get_elem? views i ≡ some v → IsPart recorders made taken (taken ++ offers_of items) v
  pub once : (n : ℕ) → total (holds n) views ≤ 1
  pub named : All (IsNamed made) (taken ++ offers_of items)
  pub rises : Rises (taken ++ offers_of items)

-- what a recorder can tell of what the buffer holds: what it kept is what was taken of it before, which is as much as it knows of or more, and
-- then what the buffer holds of it
pub record IsContentFor (v : View) (items : List Item) : Type 0 where
  pub before : List Offer
  pub mine : by v.number (before ++ offers_of items) ≡ v.kept
  pub gone : v.gone ≤ length (by v.number before)
  pub named : All (IsNamed v.recorders) (offers_of items)

-- what the taker can tell of what the buffer holds
pub record IsBalanced (v : View) (left : List Offer) : Type 0 where
  pub known : All (IsKnown v.made (v.taken ++ left)) v.known
  pub once : (n : ℕ) → times n (numbers_known v.known) ≤ 1
  pub named : All (IsNamed v.made) (v.taken ++ left)
  pub rises : Rises (v.taken ++ left)
