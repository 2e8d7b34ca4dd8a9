-- The rule of a table of counts. The adder p, from 1, has the words 3 * (p - 1) + k, where k below 3 is the kind.
use Rattle.std.specs.Prelude.{◌≡◌, ℕ, zero, suc, ◌+◌, ◌-◌, ◌*◌, ◌^◌, ◌<◌, ◌≤◌, List, [], ◌∷◌, ◌++◌, map, All, length, slice_index, slice_set, replicate}
use mathlib.Core.Option.{some}
use lib.ListN.{get_elem?}
use Rattle.tk_cell.specs.Views.{times}
use Rattle.tk_ids.specs.declared.info.Dropped.{Dropped}
use Rattle.tk_core.specs.Lists.{total}
use Rattle.atomic_table.specs.Table.{State, Me, Step}
use Rattle.tk_events.specs.declared.counts.view.Role.{Role}
use Rattle.tk_events.specs.declared.counts.view.Role.TheVariants.{Reads as ReadsRole, Adds as AddsRole, Spent}
use Rattle.tk_events.specs.declared.counts.view.Tally.{Tally}
use Rattle.tk_events.specs.declared.counts.view.View.{View}

-- the word of an adder and a kind
abbrev pub word_of : ℕ → ℕ → ℕ
word_of p k = 3 * (p - 1) + k

-- no count goes above this
abbrev pub most : ℕ
most = 2 ^ 40

abbrev pub first : ℕ → View
first n = record { role = ReadsRole; adders = n; number = 0; counts = []; made = 0; seen = replicate (3 * n) 0; known = [] }

abbrev pub spent : View
spent = record { role = Spent; adders = 0; number = 0; counts = []; made = 0; seen = []; known = [] }

-- an adder added 1 to its count of this kind
abbrev pub adds : ℕ → View → View
adds k v = record v { counts = slice_set v.counts k (slice_index v.counts k + 1) }

-- the reader read a word
abbrev pub sees : ℕ → ℕ → View → View
sees i x v = record v { seen = slice_set v.seen i x }

abbrev pub makes : View → View
makes v = record v { made = v.made + 1 }

abbrev pub newborn : View → View
newborn v = record { role = AddsRole; adders = v.adders; number = v.made + 1; counts = 0 ∷ 0 ∷ 0 ∷ []; made = 0; seen = []; known = [] }

abbrev pub tally : View → Tally
tally v = record { number = v.number; counts = v.counts }

abbrev pub takes_in : View → View → View
takes_in v w = record v { known = v.known ++ tally w ∷ [] }

-- the reader gives back what it took in
abbrev pub gives_back : View → View
gives_back v = record v { known = [] }

-- the view of the one adder that was taken in, as it was
abbrev pub lent : ℕ → List Tally → View
lent adders (t ∷ []) = record { role = AddsRole; adders = adders; number = t.number; counts = t.counts; made = 0; seen = []; known = [] }
lent adders _ = spent

abbrev pub given_back : View → View
given_back v = lent v.adders v.known

abbrev pub numbers_known : List Tally → List ℕ
numbers_known known = map (λ t. t.number) known

-- the numbers that a view answers for: the reader's own is 0
abbrev pub numbers_of : Role → View → List ℕ
numbers_of ReadsRole v = 0 ∷ numbers_known v.known
numbers_of AddsRole v = v.number ∷ []
numbers_of Spent v = []

abbrev pub holds : ℕ → View → ℕ
holds n v = times n (numbers_of v.role v)

-- the words of this adder are these counts
pub record IsCounted (made : ℕ) (words : List ℕ) (number : ℕ) (counts : List ℕ) : Type 0 where
  pub low : 0 < number
  pub high : number ≤ made
  pub words_are : (k : ℕ) → k < 3 → slice_index words (word_of number k) ≡ slice_index counts k
  pub kinds : length counts ≡ 3

pub record IsAdder (n made : ℕ) (words : List ℕ) (v : View) : Type 0 where
  pub same : v.adders ≡ n
  pub counted : IsCounted made words v.number v.counts

pub record IsReader (n made : ℕ) (words : List ℕ) (v : View) : Type 0 where
  pub same : v.adders ≡ n
  pub made' : v.made ≡ made
  pub seen : (i : ℕ) → slice_index v.seen i ≤ slice_index words i
  pub size : length v.seen ≡ 3 * n
  pub known : All (λ t. IsCounted made words t.number t.counts) v.known

pub record IsPart (n made : ℕ) (words : List ℕ) (v : View) : Type 0 where
  pub adder : v.role ≡ AddsRole → IsAdder n made words v
  pub reader : v.role ≡ ReadsRole → IsReader n made words v

-- the rule: the words are the counts of the adders, and no number has two views
pub record Counted (n : ℕ) (s : State ℕ View) : Type 0 where
  pub made : ℕ
  pub room : made ≤ n
  pub size : length s.words ≡ 3 * n
  pub parts : (i : ℕ) (v : View) → get_elem? s.views i ≡ some v → IsPart n made s.words v
  pub once : (k : ℕ) → total (holds k) s.views ≤ 1
  pub vacant : (i : ℕ) → 3 * made ≤ i → slice_index s.words i ≡ 0
  pub small : (i : ℕ) → slice_index s.words i ≤ most

-- an add to the word, which is the adder's of some kind
abbrev pub Adds : Step ℕ → Me ℕ View → ℕ → Me ℕ View → Type 0
Adds s me found w = w ≡ (adds (s.word - 3 * (me.0.number - 1)) me.0, me.1)

-- a reading is no less than the one before, and that of an adder that was joined is its count
pub record Reads (s : Step ℕ) (me : Me ℕ View) (found : ℕ) (w : Me ℕ View) : Type 0 where
  pub view : w ≡ (sees s.word found me.0, me.1)
  pub rises : slice_index me.0.seen s.word ≤ found
  pub exact : All (λ t. (k : ℕ) → k < 3 → s.word ≡ word_of t.number k → found ≡ slice_index t.counts k) me.0.known
  pub distinct : (k : ℕ) → times k (numbers_known me.0.known) ≤ 1
  pub small : found ≤ most

-- what the words of a kind are together, of the first n adders
abbrev pub total_of : ℕ → ℕ → List ℕ → ℕ
total_of k zero words = 0
total_of k (suc n) words = total_of k n words + slice_index words (3 * n + k)

-- what the adders that were joined counted of a kind, together
abbrev pub counted_of : ℕ → List Tally → ℕ
counted_of k [] = 0
counted_of k (t ∷ ts) = slice_index t.counts k + counted_of k ts

-- the totals of the words of the first n adders, by kind
abbrev pub dropped_at : ℕ → List ℕ → Dropped
dropped_at n words = record { tasks = total_of 0 n words; resources = total_of 1 n words; ops = total_of 2 n words }

-- what the adders that were joined counted together, by kind
abbrev pub dropped_known : List Tally → Dropped
dropped_known known = record { tasks = counted_of 0 known; resources = counted_of 1 known; ops = counted_of 2 known }

-- no total is less
abbrev pub AreNoLess : Dropped → Dropped → Type 0
AreNoLess old new = (old.tasks ≤ new.tasks) × (old.resources ≤ new.resources) × (old.ops ≤ new.ops)

-- each adder from 1 to n was joined, once
pub record IsWhole (n : ℕ) (known : List Tally) : Type 0 where
  pub named : All (λ t. (0 < t.number) × (t.number ≤ n)) known
  pub each : (p : ℕ) → 0 < p → p ≤ n → times p (numbers_known known) ≡ 1
