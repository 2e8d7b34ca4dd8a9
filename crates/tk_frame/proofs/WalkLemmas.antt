-- A walk through items, one after the other.
use Rattle.std.proofs.Common.{◌≡◌, ℕ, zero, suc, ◌+◌, ◌≤◌, List, [], ◌∷◌, ◌++◌, length, take, slice_get, Bool, true, false, cond, not, Option, Some, None, refl, ap, sym, ◌∙◌, arith, subst, add-one}
use Rattle.std.specs.Prelude.{filter, fold, is_some, ◌&&◌}
use Rattle.std.specs.Option.{option_map_or}
use Rattle.std.proofs.lemmas.List.{take_all}
use Rattle.tk_core.specs.declared.task.row.TaskRow.{TaskRow}
use Rattle.tk_stream.specs.declared.tables.task.Task.{Task}
use Rattle.tk_screen.specs.Rankings.{ranked_in, kept}
use Rattle.tk_screen.specs.declared.top.Ranked.{Ranked}
use Rattle.tk_screen.proofs.RankLemmas.{kept_is_front}
use Rattle.tk_frame.specs.Queries.{begins, stands_in, rank_at, ranked_from, top_of}
use Rattle.tk_frame.specs.States.{count, is_closed, is_idle, is_polling, is_scheduled, states_of}
use Rattle.tk_frame.specs.Walks.{and_task, counted_with, kept_with, no_states, states_with, tally, total}
use Rattle.tk_frame.specs.declared.ranks.States.{States}

-- ---- names

pub begins_stands : (part text : List ℕ) → begins part text ≡ true → stands_in part text ≡ true
begins_stands part [] e = e
begins_stands part (y ∷ text) e = rw e refl

-- ---- states

tally-next : (a : States) (ts : List Task) (i : ℕ) → fold states_with a (take (suc i) ts) ≡ option_map_or (states_with (fold states_with a (take i ts))) (slice_get ts i) (fold states_with a (take i ts))
tally-next a [] zero = refl
tally-next a [] (suc i) = refl
tally-next a (t ∷ ts) zero = refl
tally-next a (t ∷ ts) (suc i) = tally-next (states_with a t) ts i

-- one task more
pub tally-more : (ts : List Task) (i : ℕ) (old new : States) → old ≡ tally (take i ts) → new ≡ option_map_or (states_with old) (slice_get ts i) old → new ≡ tally (take (i + 1) ts)
tally-more ts i old new e f = rw add-one (f ∙ ap (λ s. option_map_or (states_with s) (slice_get ts i) s) e ∙ sym (tally-next no_states ts i))

one-more : (a : States) (x : TaskRow) → total (and_task a x) ≡ total a + 1
one-more a x = by (is_some x.dropped) x.polling x.scheduled
  where
    by : (c p s : Bool) → total (cond c (record a { closed = a.closed + 1 }) (cond p (record a { polling = a.polling + 1 }) (cond s (record a { scheduled = a.scheduled + 1 }) (record a { idle = a.idle + 1 })))) ≡ total a + 1
    by true p s = omega arith
    by false true s = omega arith
    by false false true = omega arith
    by false false false = omega arith

total-from : (a : States) (ts : List Task) → total (fold states_with a ts) ≡ total a + length ts
total-from a [] = omega arith
total-from a (t ∷ ts) = let h = total-from (states_with a t) ts in let g = one-more a t.row in omega arith

short : {X : Type 0} (i : ℕ) (ts : List X) → length (take i ts) ≤ i
short zero ts = omega arith
short (suc i) [] = omega arith
short (suc i) (t ∷ ts) = let h = short i ts in omega arith

-- as many tasks were counted as there were
pub total-so_far : (ts : List Task) (i : ℕ) (states : States) → states ≡ tally (take i ts) → total states ≤ i
total-so_far ts i states e =
    let h = total-from no_states (take i ts) in
    let g = short i ts in
    subst (λ s. total s ≤ i) (sym e) (omega arith)

-- these counts, and those of tasks
abbrev with_those : States → List Task → States
with_those a ts = record {
  polling = a.polling + count is_polling ts;
  scheduled = a.scheduled + count is_scheduled ts;
  idle = a.idle + count is_idle ts;
  closed = a.closed + count is_closed ts;
}

abbrev record_of : ℕ → ℕ → ℕ → ℕ → States
record_of p s i c = record { polling = p; scheduled = s; idle = i; closed = c }

same_states : (p p' s s' i i' c c' : ℕ) → p ≡ p' → s ≡ s' → i ≡ i' → c ≡ c'
    → record_of p s i c ≡ record_of p' s' i' c'
same_states p p' s s' i i' c c' a b d e =
    ap (λ n. record_of n s i c) a ∙ ap (λ n. record_of p' n i c) b ∙ ap (λ n. record_of p' s' n c) d ∙ ap (λ n. record_of p' s' i' n) e

tally-counts : (a : States) (ts : List Task) → fold states_with a ts ≡ with_those a ts
tally-counts a [] = same_states _ _ _ _ _ _ _ _ (omega arith) (omega arith) (omega arith) (omega arith)
tally-counts a (t ∷ ts) = by (is_some t.row.dropped) t.row.polling t.row.scheduled (λ b. tally-counts b ts)
  where
    by : (c p s : Bool) → ((b : States) → fold states_with b ts ≡ with_those b ts)
        → fold states_with (cond c (record a { closed = a.closed + 1 }) (cond p (record a { polling = a.polling + 1 }) (cond s (record a { scheduled = a.scheduled + 1 }) (record a { idle = a.idle + 1 })))) ts
        ≡ record_of
        (a.polling + length (cond (not c && p) (t ∷ filter is_polling ts) (filter is_polling ts)))
        (a.scheduled + length (cond (not c && (not p && s)) (t ∷ filter is_scheduled ts) (filter is_scheduled ts)))
        (a.idle + length (cond (not c && (not p && not s)) (t ∷ filter is_idle ts) (filter is_idle ts)))
        (a.closed + length (cond c (t ∷ filter is_closed ts) (filter is_closed ts)))
    by true p s f = f (record a { closed = a.closed + 1 }) ∙ same_states _ _ _ _ _ _ _ _ refl refl refl (omega arith)
    by false true s f = f (record a { polling = a.polling + 1 }) ∙ same_states _ _ _ _ _ _ _ _ (omega arith) refl refl refl
    by false false true f = f (record a { scheduled = a.scheduled + 1 }) ∙ same_states _ _ _ _ _ _ _ _ refl (omega arith) refl refl
    by false false false f = f (record a { idle = a.idle + 1 }) ∙ same_states _ _ _ _ _ _ _ _ refl refl (omega arith) refl

-- at the end
pub states-all : (ts : List Task) (i : ℕ) (states : States) → length ts ≤ i → states ≡ tally (take i ts) → states ≡ states_of ts
states-all ts i states h e =
    e ∙ ap tally (take_all i ts h) ∙ tally-counts no_states ts ∙ same_states _ _ _ _ _ _ _ _ (omega arith) (omega arith) (omega arith) (omega arith)

-- ---- how many are shown

module _ {X : Type 0} (p : X → Bool) where
  abbrev counted : List X → ℕ
  counted ts = length (filter p ts)

  counted-next : (ts : List X) (i : ℕ) → counted (take (suc i) ts) ≡ option_map_or (counted_with p (counted (take i ts))) (slice_get ts i) (counted (take i ts))
  counted-next [] zero = refl
  counted-next [] (suc i) = refl
  counted-next (t ∷ ts) zero = by (p t)
    where
      by : (b : Bool) → length (cond b (t ∷ []) []) ≡ cond b 1 0
      by true = refl
      by false = refl
  counted-next (t ∷ ts) (suc i) = by (p t) (slice_get ts i) (counted-next ts i)
    where
      with_one : (n : ℕ) (u : Option X) → suc (option_map_or (counted_with p n) u n) ≡ option_map_or (counted_with p (suc n)) u (suc n)
      with_one n None = refl
      with_one n (Some u) = inner (p u)
        where
          inner : (b : Bool) → suc (cond b (n + 1) n) ≡ cond b (suc n + 1) (suc n)
          inner true = omega arith
          inner false = refl

      by : (b : Bool) (u : Option X) → counted (take (suc i) ts) ≡ option_map_or (counted_with p (counted (take i ts))) u (counted (take i ts))
          → length (cond b (t ∷ filter p (take (suc i) ts)) (filter p (take (suc i) ts)))
          ≡ option_map_or (counted_with p (length (cond b (t ∷ filter p (take i ts)) (filter p (take i ts))))) u
          (length (cond b (t ∷ filter p (take i ts)) (filter p (take i ts))))
      by true u e = ap suc e ∙ with_one (counted (take i ts)) u
      by false u e = e

  -- one item more
  pub count-more : (ts : List X) (i old new : ℕ) → old ≡ counted (take i ts) → new ≡ option_map_or (counted_with p old) (slice_get ts i) old
      → new ≡ counted (take (i + 1) ts)
  count-more ts i old new e f = rw add-one (f ∙ ap (λ n. option_map_or (counted_with p n) (slice_get ts i) n) e ∙ sym (counted-next ts i))

  counted-few : (ts : List X) → counted ts ≤ length ts
  counted-few [] = omega arith
  counted-few (t ∷ ts) = by (p t) (counted-few ts)
    where
      by : (b : Bool) → counted ts ≤ length ts → length (cond b (t ∷ filter p ts) (filter p ts)) ≤ length (t ∷ ts)
      by true h = omega arith
      by false h = omega arith

  -- no more are shown than there were
  pub count-few : (ts : List X) (i n : ℕ) → n ≡ counted (take i ts) → n ≤ i
  count-few ts i n e =
      let h = counted-few (take i ts) in
      let g = short i ts in
      subst (λ m. m ≤ i) (sym e) (omega arith)

  -- at the end
  pub count-all : (ts : List X) (i n : ℕ) → length ts ≤ i → n ≡ counted (take i ts) → n ≡ counted ts
  count-all ts i n h e = e ∙ ap counted (take_all i ts h)

-- ---- ranks

-- what is kept of these after others
abbrev on : ℕ → List Ranked → List Ranked → List Ranked
on room items xs = fold (λ ys x. take room (ranked_in x ys)) items xs

module _ {X : Type 0} (key : X → Option ℕ) (room m : ℕ) where
  ranks-next : (ts : List X) (i n : ℕ) (items : List Ranked) → m ≡ n + i
      → on room items (ranked_from key n (take (suc i) ts))
      ≡ option_map_or (λ t. kept_with (key t) m room (on room items (ranked_from key n (take i ts)))) (slice_get ts i) (on room items (ranked_from key n (take i ts)))
  ranks-next [] zero n items e = refl
  ranks-next [] (suc i) n items e = refl
  ranks-next (t ∷ ts) zero n items e = by (key t) (omega arith)
    where
      by : (k : Option ℕ) → m ≡ n → on room items (rank_at k n ++ []) ≡ kept_with k m room items
      by None h = refl
      by (Some k) h = ap (λ p. take room (ranked_in (record { key = k; place = p }) items)) (sym h)
  ranks-next (t ∷ ts) (suc i) n items e = by (key t) (λ its. ranks-next ts i (suc n) its (omega arith))
    where
      by : (k : Option ℕ) → ((its : List Ranked) → on room its (ranked_from key (suc n) (take (suc i) ts))
          ≡ option_map_or (λ u. kept_with (key u) m room (on room its (ranked_from key (suc n) (take i ts)))) (slice_get ts i) (on room its (ranked_from key (suc n) (take i ts))))
          → on room items (rank_at k n ++ ranked_from key (suc n) (take (suc i) ts))
          ≡ option_map_or (λ u. kept_with (key u) m room (on room items (rank_at k n ++ ranked_from key (suc n) (take i ts)))) (slice_get ts i) (on room items (rank_at k n ++ ranked_from key (suc n) (take i ts)))
      by None f = f items
      by (Some k) f = f (take room (ranked_in (record { key = k; place = n }) items))

-- one item more was offered
pub ranks-more : {X : Type 0} (key : X → Option ℕ) (rows room : ℕ) (ts : List X) (i : ℕ) (old new : List Ranked)
    → room ≡ rows → old ≡ kept rows (ranked_from key 0 (take i ts))
    → new ≡ option_map_or (λ t. kept_with (key t) i room old) (slice_get ts i) old → new ≡ kept rows (ranked_from key 0 (take (i + 1) ts))
ranks-more key rows room ts i old new r e f =
    rw add-one (f ∙ ap (λ k. option_map_or (λ t. kept_with (key t) i k old) (slice_get ts i) old) r
    ∙ ap (λ items. option_map_or (λ t. kept_with (key t) i rows items) (slice_get ts i) items) e ∙ sym (ranks-next key rows i ts i 0 [] (omega arith)))

-- at the end
pub top-all : {X : Type 0} (key : X → Option ℕ) (rows : ℕ) (ts : List X) (i : ℕ) (items : List Ranked) → length ts ≤ i → items ≡ kept rows (ranked_from key 0 (take i ts)) → items ≡ top_of key rows ts
top-all key rows ts i items h e = e ∙ ap (λ us. kept rows (ranked_from key 0 us)) (take_all i ts h) ∙ kept_is_front rows (ranked_from key 0 ts)
