-- Items by their keys, the greatest first.
use Rattle.std.specs.Prelude.{◌≡◌, ◌==◌, ◌≤◌, ℕ, suc, List, [], ◌∷◌, take, filter, fold, nat_lt, if◌then◌else◌}
use Rattle.tk_screen.specs.declared.top.Ranked.{Ranked}

-- each key is at most this one
abbrev pub AreAtMost : ℕ → List Ranked → Type 0
AreAtMost key [] = Unit {0}
AreAtMost key (y ∷ ys) = (y.key ≤ key) × AreAtMost key ys

-- keys never rise
abbrev pub NeverRise : List Ranked → Type 0
NeverRise [] = Unit {0}
NeverRise (y ∷ ys) = AreAtMost y.key ys × NeverRise ys

-- the items of one key, in their order
abbrev pub with_key : ℕ → List Ranked → List Ranked
with_key key items = filter (λ y. y.key == key) items

-- a ranking of items: keys never rise, and the items of each key are there, in the order in which they were
pub record IsRanking (items ranked : List Ranked) : Type 0 where
  pub falls : NeverRise ranked
  pub stable : (key : ℕ) → with_key key ranked ≡ with_key key items

-- an item among ranked ones: before the first of a smaller key
abbrev pub ranked_in : Ranked → List Ranked → List Ranked
ranked_in x [] = x ∷ []
ranked_in x (y ∷ ys) = if nat_lt y.key x.key then x ∷ y ∷ ys else y ∷ ranked_in x ys

-- how many items are before the first of a smaller key
abbrev pub place_of : ℕ → List Ranked → ℕ
place_of key [] = 0
place_of key (y ∷ ys) = if nat_lt y.key key then 0 else suc (place_of key ys)

-- the ranking of items: each is put among those before it
abbrev pub ranking : List Ranked → List Ranked
ranking items = fold (λ ys x. ranked_in x ys) [] items

-- what is kept of items that are offered one by one, where there is room for so many
abbrev pub kept : ℕ → List Ranked → List Ranked
kept room items = fold (λ ys x. take room (ranked_in x ys)) [] items

-- what is kept of what was offered, and for how many there is room
pub record TopView : Type 0 where
  pub items : List Ranked
  pub room : ℕ
