-- Inner: what each step on the cell tells. No public clause cites this file.
use Rattle.std.specs.Prelude.{◌≡◌, ◌≢◌, ℕ, ◌⊎◌, List, [], ◌∷◌, ◌++◌, Option, Some, None}
use Rattle.tk_core.specs.declared.history.Entry.{Entry}
use Rattle.tk_core.specs.Meaning.{Meaning}
use Rattle.tk_core.specs.History.{calls_of}
use Rattle.tk_cell.specs.declared.view.View.{View}
use Rattle.tk_cell.specs.declared.part.Part.{Part}
use Rattle.tk_cell.specs.declared.part.Part.TheVariants.{One}
use Rattle.tk_cell.specs.Views.{opened}
use Rattle.tk_cell.specs.Calls.{Calls, Joins, Hears, Meets}
use Rattle.tk_cell.specs.Parts.{view_of, other_of, IsOne, IsTwo}

module _ {O C R : Type 0} where
  -- the swap that sets the opening row
  abbrev pub OpensAt : Option O → Part O C R → List ℕ → List ℕ → Part O C R → Type 0
  OpensAt None p x y q = Unit {0}
  OpensAt (Some row) p x y q = q ≡ One (opened row)

  -- the token is settled after the step, and makes calls as the same caller
  abbrev pub GoesOn : Part O C R → Part O C R → Type 0
  GoesOn p q = IsOne q × ((view_of q).caller ≡ (view_of p).caller)

module _ {O C R : Type 0} (m : Meaning O C R) where
  -- the call was made after a history with the words x, and leaves the words y
  abbrev pub Plays : View O C R → C → List ℕ → List ℕ → View O C R → Type 0
  Plays v call x y w = (opening : O) × (h : List (Entry C R)) × m.IsOpening opening × (m.words (m.row_after opening (calls_of h)) ≡ x)
      × (m.words (m.row_after opening (calls_of h ++ call ∷ [])) ≡ y) × Calls m v call (m.reply_after opening (calls_of h) call) w

  -- nothing was done: the view stays, and the call would change the words
  abbrev pub Sees : View O C R → C → List ℕ → View O C R → Type 0
  Sees v call x w = (opening : O) × (h : List (Entry C R)) × m.IsOpening opening × (m.words (m.row_after opening (calls_of h)) ≡ x)
      × (m.words (m.row_after opening (calls_of h ++ call ∷ [])) ≢ x) × (w ≡ v)

  -- a load makes the call where that changes no word, and else nothing
  abbrev pub LooksFor : Option C → View O C R → List ℕ → List ℕ → View O C R → Type 0
  LooksFor None v x y w = Unit {0}
  LooksFor (Some call) v x y w = Plays v call x y w ⊎ Sees v call x w

  -- the same, of the parts of the rule
  abbrev pub LooksAt : Option C → Part O C R → List ℕ → List ℕ → Part O C R → Type 0
  LooksAt picked p x y q = GoesOn p q × LooksFor picked (view_of p) x y (view_of q)

  -- an exchange makes the call where it changes the words, and else nothing
  abbrev pub ExchangesFor : Option C → View O C R → List ℕ → List ℕ → View O C R → Type 0
  ExchangesFor None v x y w = Unit {0}
  ExchangesFor (Some call) v x y w = ((y ≢ x) × Plays v call x y w) ⊎ ((y ≡ x) × (w ≡ v))

  -- the same, of the parts of the rule
  abbrev pub ExchangesAt : Option C → Part O C R → List ℕ → List ℕ → Part O C R → Type 0
  ExchangesAt picked p x y q = GoesOn p q × ExchangesFor picked (view_of p) x y (view_of q)

  -- the load after a token was taken in: the two views become one
  abbrev pub SettlesAt : Part O C R → List ℕ → List ℕ → Part O C R → Type 0
  SettlesAt p x y q = GoesOn p q × Joins m (view_of p) (other_of p) (view_of q)

  -- the load after what was told was taken in
  abbrev pub HearsAt : Part O C R → List ℕ → List ℕ → Part O C R → Type 0
  HearsAt p x y q = GoesOn p q × Hears m (view_of p) (other_of p) (view_of q)

  -- the load at which two tokens meet
  abbrev pub MeetsAt : Part O C R → List ℕ → List ℕ → Part O C R → Type 0
  MeetsAt p x y q = IsTwo q × Meets m (view_of p) (other_of p) (view_of q) (other_of q)

  -- from any history with the words x, the call leads to the words y
  abbrev pub LeadsTo : C → List ℕ → List ℕ → Type 0
  LeadsTo call x y = (opening : O) (calls : List C) → m.IsOpening opening → m.words (m.row_after opening calls) ≡ x → m.words (m.row_after opening (calls ++ call ∷ [])) ≡ y
