-- The buckets of a histogram that aren't empty say all of its counts, and two histograms are the same where all of them agree.
use Rattle.std.proofs.Common.{◌≡◌, ◌+◌, ◌^◌, ◌≤◌, ◌<◌, ◌==◌, ℕ, zero, suc, List, [], ◌∷◌, ◌++◌, length, map, take, append_assoc, append-nil, Bool, true, false, cond, nat_eq, Option, Some, None, option_map, refl, sym, ap, ap₂, ◌∙◌, arith}
use Rattle.std.specs.Cmp.Lexicographic.{pointwise}
use Rattle.std.specs.List.{AllByRecursion}
use Rattle.std.specs.Option.{option_eq}
use Rattle.std.proofs.lemmas.Bool.{and_parts, eqb-true}
use Rattle.std.proofs.lemmas.List.{take_all}
use Rattle.serde_json.specs.View.{items_of}
use Rattle.serde_json.specs.Written.{items_text, comma_if}
use Rattle.tk_stream.specs.Spelling.{filled_data}
use Rattle.tk_stream.specs.declared.tables.times.WaitTimes.{WaitTimes}
use Rattle.tk_stream.specs.Times.{TaskTimes, same_waits, same_times, filled_from, counts_from}

-- the first bucket that isn't empty isn't before the first bucket
abbrev BeginsAt : ℕ → List (ℕ × ℕ) → Type 0
BeginsAt k [] = Unit {0}
BeginsAt k (b ∷ bs) = k ≤ b.0

begins_later : (k : ℕ) (bs : List (ℕ × ℕ)) → BeginsAt (k + 1) bs → BeginsAt k bs
begins_later k [] h = tt
begins_later k (b ∷ bs) h = omega (arith, h)

filled_begins : (k : ℕ) (ns : List ℕ) → BeginsAt k (filled_from k ns)
filled_begins k [] = tt
filled_begins k (n ∷ ns) = by (n == 0) (filled_begins (k + 1) ns)
  where
    by : (b : Bool) → BeginsAt (k + 1) (filled_from (k + 1) ns) → BeginsAt k (cond b (filled_from (k + 1) ns) ((k, n) ∷ filled_from (k + 1) ns))
    by true h = begins_later k (filled_from (k + 1) ns) h
    by false h = omega arith

-- an empty bucket comes first
empty_first : (k n : ℕ) (bs : List (ℕ × ℕ)) → BeginsAt (k + 1) bs → counts_from k (suc n) bs ≡ option_map (λ ns. 0 ∷ ns) (counts_from (k + 1) n bs)
empty_first k n [] h = refl
empty_first k n (b ∷ bs) h = rw (other) refl
  where
    other : (b.0 == k) ≡ false
    other = grind (arith, h)

pub filled_back : (k n : ℕ) (counts : List ℕ) → length counts ≡ n → counts_from k n (filled_from k counts) ≡ Some counts
filled_back k zero [] e = refl
filled_back k (suc n) [] e = absurd (omega (arith, e))
filled_back k zero (c ∷ cs) e = absurd (omega (arith, e))
filled_back k (suc n) (c ∷ cs) e = by (c == 0) refl (filled_back (k + 1) n cs (omega (arith, e)))
  where
    same : (k == k) ≡ true
    same = grind arith

    by : (b : Bool) → (c == 0) ≡ b → counts_from (k + 1) n (filled_from (k + 1) cs) ≡ Some cs
        → counts_from k (suc n) (cond b (filled_from (k + 1) cs) ((k, c) ∷ filled_from (k + 1) cs)) ≡ Some (c ∷ cs)
    by true is rest = empty_first k n (filled_from (k + 1) cs) (filled_begins (k + 1) cs) ∙ ap (option_map (λ ns. 0 ∷ ns)) rest ∙ ap (λ x. Some (x ∷ cs)) (sym (eqb-true c 0 is))
    by false is rest = rw (same, is) (ap (option_map (λ ns. c ∷ ns)) rest)

-- what is told of them is all
pub all_of_filled : (k n : ℕ) (bs : List (ℕ × ℕ)) (counts : List ℕ) → counts_from k n bs ≡ Some counts → filled_from k counts ≡ bs
all_of_filled k zero [] counts e = let same : counts ≡ [] = cc in rw same refl
all_of_filled k zero (b ∷ bs) counts e = absurd (cc)
all_of_filled k (suc n) [] counts e = by (counts_from (k + 1) n []) (all_of_filled (k + 1) n []) e
  where
    by : (o : Option (List ℕ)) → ((cs : List ℕ) → o ≡ Some cs → filled_from (k + 1) cs ≡ []) → option_map (λ ns. 0 ∷ ns) o ≡ Some counts → filled_from k counts ≡ []
    by None h is = absurd (cc)
    by (Some cs) h is = let same : counts ≡ 0 ∷ cs = cc in rw same (h cs refl)
all_of_filled k (suc n) (b ∷ bs) counts e = by (b.0 == k) (b.1 == 0) refl refl (all_of_filled (k + 1) n bs) (all_of_filled (k + 1) n (b ∷ bs)) e
  where
    more : (o : Option (List ℕ)) → ((cs : List ℕ) → o ≡ Some cs → filled_from (k + 1) cs ≡ bs) → (b.0 == k) ≡ true → (b.1 == 0) ≡ false → option_map (λ ns. b.1 ∷ ns) o ≡ Some counts → filled_from k counts ≡ b ∷ bs
    more None h here some is = absurd (cc)
    more (Some cs) h here some is =
        let same : counts ≡ b.1 ∷ cs = cc in
        rw same (rw some (ap (λ x. (x, b.1) ∷ filled_from (k + 1) cs) (sym (eqb-true b.0 k here)) ∙ ap (λ xs. b ∷ xs) (h cs refl)))

    later : (o : Option (List ℕ)) → ((cs : List ℕ) → o ≡ Some cs → filled_from (k + 1) cs ≡ b ∷ bs) → option_map (λ ns. 0 ∷ ns) o ≡ Some counts → filled_from k counts ≡ b ∷ bs
    later None h is = absurd (cc)
    later (Some cs) h is = let same : counts ≡ 0 ∷ cs = cc in rw same (h cs refl)

    by : (here none : Bool) → (b.0 == k) ≡ here → (b.1 == 0) ≡ none
        → ((cs : List ℕ) → counts_from (k + 1) n bs ≡ Some cs → filled_from (k + 1) cs ≡ bs) → ((cs : List ℕ) → counts_from (k + 1) n (b ∷ bs) ≡ Some cs → filled_from (k + 1) cs ≡ b ∷ bs)
        → cond here (cond none None (option_map (λ ns. b.1 ∷ ns) (counts_from (k + 1) n bs))) (option_map (λ ns. 0 ∷ ns) (counts_from (k + 1) n (b ∷ bs))) ≡ Some counts → filled_from k counts ≡ b ∷ bs
    by true true here none h g is = absurd (cc)
    by true false here none h g is = more (counts_from (k + 1) n bs) h here none is
    by false none here other h g is = later (counts_from (k + 1) n (b ∷ bs)) g is

-- their numbers and counts are numbers of 64 bits
pub all_filled : (k : ℕ) (counts : List ℕ) → k + length counts ≤ 2 ^ 64 → AllByRecursion (λ c. c < 2 ^ 64) counts → AllByRecursion (λ b. (b.0 < 2 ^ 64) × (b.1 < 2 ^ 64)) (filled_from k counts)
all_filled k [] few fit = tt
all_filled k (c ∷ cs) few fit = by (c == 0) (all_filled (k + 1) cs (omega (arith, few)) fit.1)
  where
    by : (b : Bool) → AllByRecursion (λ b. (b.0 < 2 ^ 64) × (b.1 < 2 ^ 64)) (filled_from (k + 1) cs)
        → AllByRecursion (λ b. (b.0 < 2 ^ 64) × (b.1 < 2 ^ 64)) (cond b (filled_from (k + 1) cs) ((k, c) ∷ filled_from (k + 1) cs))
    by true rest = rest
    by false rest = ((omega (arith, few), fit.0), rest)

-- ---- reading them, bucket by bucket

pub none_before : (o : Option (List ℕ)) → o ≡ option_map (λ ns. [] ++ ns) o
none_before None = refl
none_before (Some ns) = refl

-- one count more is known
pub one_more : (front next : List ℕ) (count : ℕ) (o : Option (List ℕ)) → next ≡ front ++ count ∷ []
    → option_map (λ ns. front ++ ns) (option_map (λ ns. count ∷ ns) o) ≡ option_map (λ ns. next ++ ns) o
one_more front next count None is = refl
one_more front next count (Some ns) is = ap Some (sym (append_assoc front (count ∷ []) ns)) ∙ ap (λ xs. Some (xs ++ ns)) (sym is)

-- ---- writing them, from the last to the first

-- whether some bucket isn't empty
abbrev pub has_some : List (ℕ × ℕ) → Bool
has_some [] = false
has_some (b ∷ bs) = true

pub comma_first : (bs : List (ℕ × ℕ)) → items_text true (items_of (map filled_data bs)) ≡ comma_if (has_some bs) ++ items_text false (items_of (map filled_data bs))
comma_first [] = refl
comma_first (b ∷ bs) = refl

-- no bucket is left where all were read
pub all_read : (counts : List ℕ) (bs : List (ℕ × ℕ)) → length counts ≡ 14 → bs ≡ [] → option_map (λ ns. take 14 counts ++ ns) (counts_from 14 0 bs) ≡ Some counts
all_read counts bs many none = ap (λ xs. option_map (λ ns. take 14 counts ++ ns) (counts_from 14 0 xs)) none ∙ ap Some (append-nil (take 14 counts) ∙ take_all 14 counts (omega (arith, many)))

pub some_left : (counts : List ℕ) (bs : List (ℕ × ℕ)) → 0 < length bs → option_map (λ ns. take 14 counts ++ ns) (counts_from 14 0 bs) ≡ None
some_left counts [] h = absurd (omega (arith, h))
some_left counts (b ∷ bs) h = refl

-- ---- histograms that agree

lists_agree : (xs ys : List ℕ) → pointwise nat_eq xs ys ≡ true → xs ≡ ys
lists_agree [] [] h = refl
lists_agree [] (y ∷ ys) h = absurd cc
lists_agree (x ∷ xs) [] h = absurd cc
lists_agree (x ∷ xs) (y ∷ ys) h = let p = and_parts (nat_eq x y) (pointwise nat_eq xs ys) h in ap₂ (λ z zs. z ∷ zs) (eqb-true x y p.0) (lists_agree xs ys p.1)

waits_agree : (a b : WaitTimes) → same_waits a b ≡ true → a ≡ b
waits_agree a b h =
    let p = and_parts (nat_eq a.longest b.longest) (pointwise nat_eq a.counts b.counts) h in
    let longest : a.longest ≡ b.longest = eqb-true a.longest b.longest p.0 in
    let counts : a.counts ≡ b.counts = lists_agree a.counts b.counts p.1 in
    λ i. record { longest = longest i; counts = counts i }

beside_agree : (a b : Option WaitTimes) → option_eq same_waits a b ≡ true → a ≡ b
beside_agree (Some v) (Some w) h = ap Some (waits_agree v w h)
beside_agree (Some v) None h = absurd cc
beside_agree None (Some w) h = absurd cc
beside_agree None None h = refl

-- histograms of tasks that agree are the same
pub times_agree : (a b : TaskTimes) → same_times a b ≡ true → a ≡ b
times_agree a b h =
    let p = and_parts _ (option_eq same_waits a.1.waits b.1.waits) h in
    let q = and_parts _ (pointwise nat_eq a.1.counts b.1.counts) p.0 in
    let r = and_parts (nat_eq a.0 b.0) (nat_eq a.1.longest b.1.longest) q.0 in
    let id : a.0 ≡ b.0 = eqb-true a.0 b.0 r.0 in
    let longest : a.1.longest ≡ b.1.longest = eqb-true a.1.longest b.1.longest r.1 in
    let counts : a.1.counts ≡ b.1.counts = lists_agree a.1.counts b.1.counts q.1 in
    let waits : a.1.waits ≡ b.1.waits = beside_agree a.1.waits b.1.waits p.1 in
    λ i. (id i, record { longest = longest i; counts = counts i; waits = waits i })
