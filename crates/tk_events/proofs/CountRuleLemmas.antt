-- Each step keeps the rule of a table of counts.
use Rattle.std.proofs.Common.{◌≡◌, ◌≢◌, ℕ, zero, suc, ◌+◌, ◌-◌, ◌*◌, ◌%◌, ◌^◌, ◌<◌, ◌≤◌, List, [], ◌∷◌, ◌++◌, length, get_or, set, slice_index, replicate, refl, ap, sym, ◌∙◌, subst, arith, ⊎_elim}
use Rattle.std.specs.List.{All}
use Rattle.std.proofs.lemmas.List.{map-append, get_or-set_same, get_or-set_other, set-get_or, length-set, length-replicate}
use Rattle.std.proofs.lemmas.List.Elements.{All-push, All-head, All-tail, All-nil}
use mathlib.Core.Option.{some, none, some-injective, some-ne-none}
use lib.ListN.{get_elem?}
use Rattle.atomic_table.proofs.Lists.{at_set, at_snoc}
use Rattle.atomic_table.specs.Table.{State, Me, step, keeps, Allows, Splits, Joins, opening}
use Rattle.tk_events.specs.declared.counts.view.Role.{Role}
use Rattle.tk_events.specs.declared.counts.view.Role.TheVariants.{Reads as ReadsRole, Adds as AddsRole, Spent}
use Rattle.tk_events.specs.declared.counts.view.Tally.{Tally}
use Rattle.tk_events.specs.declared.counts.view.View.{View}
use Rattle.tk_events.specs.Counts.{word_of, most, first, spent, adds, sees, makes, newborn, tally, takes_in, gives_back, lent, given_back, numbers_known, numbers_of, holds, IsCounted, IsAdder, IsReader, IsPart, Counted, Adds, Reads}
use Rattle.tk_cell.specs.Views.{times}
use Rattle.tk_core.specs.Lists.{total}
use Rattle.tk_cell.proofs.ListLemmas.{dec_eq, times-append, times_itself, times_other, total_set, total_snoc, total_one, total_two, total_none}
use Rattle.tk_events.proofs.ListLemmas.{times_one, each_set}

-- the number of a tally is among the numbers known
times_at : (rs : List Tally) (k : ℕ) (d : Tally) → k < length rs → 0 < times (get_or rs k d).number (numbers_known rs)
times_at [] k d lt = absurd (omega arith)
times_at (r ∷ rs) zero d lt = let t = times_itself r.number in omega (arith, t)
times_at (r ∷ rs) (suc k) d lt = let t = times_at rs k d (omega arith) in omega (arith, t)

holds_adder : (n : ℕ) (v : View) → v.role ≡ AddsRole → holds n v ≡ times n (v.number ∷ [])
holds_adder n v is = ap (λ (r : Role). times n (numbers_of r v)) is

holds_reader : (n : ℕ) (v : View) → v.role ≡ ReadsRole → holds n v ≡ times n (0 ∷ numbers_known v.known)
holds_reader n v is = ap (λ (r : Role). times n (numbers_of r v)) is

adder_one : (v : View) → v.role ≡ AddsRole → 0 < holds v.number v
adder_one v is = let a = holds_adder v.number v is in let b = times_itself v.number in omega (arith, a, b)

reader_one : (v : View) → v.role ≡ ReadsRole → 0 < holds 0 v
reader_one v is = let a = holds_reader 0 v is in let b = times_itself 0 in omega (arith, a, b)

known_one : (v : View) (k : ℕ) (d : Tally) → v.role ≡ ReadsRole → k < length v.known → 0 < holds (get_or v.known k d).number v
known_one v k d is lt = let n = (get_or v.known k d).number in let a = holds_reader n v is in let b = times_at v.known k d lt in omega (arith, a, b)

alone : (views : List View) (once : (n : ℕ) → total (holds n) views ≤ 1) (i j : ℕ) (v u : View) (n : ℕ) → j ≢ i → get_elem? views i ≡ some v → get_elem? views j ≡ some u → 0 < holds n v → 0 < holds n u → ⊥
alone views once i j v u n ne a b p q = let t = total_two (holds n) views j i u v ne b a in let o = once n in omega (arith, t, o)

each_snoc : (F : View → Type 0) (views : List View) (i : ℕ) (w new : View) → F w → F new → ((j : ℕ) (u : View) → j ≢ i → get_elem? views j ≡ some u → F u) → (j : ℕ) (u : View) → get_elem? (set views i w ++ new ∷ []) j ≡ some u → F u
each_snoc F views i w new mine here others j u e = ⊎_elim
    (λ (t : get_elem? (set views i w) j ≡ some u). each_set F views i w mine others j u t)
    (λ (t : new ≡ u). subst F t here)
    (at_snoc (set views i w) new u j e)

spent_part : (n made : ℕ) (words : List ℕ) → IsPart n made words spent
spent_part n made words = record { adder = λ e. absurd (cc); reader = λ e. absurd (cc) }

-- counts of which no word was written stay
counted_other : (made : ℕ) (words : List ℕ) (i y q : ℕ) (cs : List ℕ) → ((j : ℕ) → j < 3 → word_of q j ≢ i) → IsCounted made words q cs → IsCounted made (set words i y) q cs
counted_other made words i y q cs apart c = record {
  low = c.low;
  high = c.high;
  words_are = λ j lt. get_or-set_other words i (word_of q j) y 0 (apart j lt) ∙ c.words_are j lt;
  kinds = c.kinds;
}

-- two adders have no word in common
words_apart : (p q j k : ℕ) → 0 < p → 0 < q → j < 3 → k < 3 → p ≢ q → word_of q j ≢ word_of p k
words_apart p q j k a b c d ne e = omega (arith, a, b, c, d, ne, e)

-- An adder adds 1.
module _ (n slots id : ℕ) (me : Me ℕ View) (k : ℕ) (role : me.0.role ≡ AddsRole) (kind : k < 3) (room : slice_index me.0.counts k < most) (s : State ℕ View) (h : Counted n s) (at : get_elem? s.views id ≡ some me.0) where
  abbrev v : View
  v = me.0

  abbrev i : ℕ
  i = word_of v.number k

  abbrev new : ℕ
  new = slice_index v.counts k + 1

  mine : IsAdder n h.made s.words v
  mine = (h.parts id v at).adder role

  found : slice_index s.words i ≡ slice_index v.counts k
  found = mine.counted.words_are k kind

  inside : i < length s.words
  inside = let a = mine.counted.low in let b = mine.counted.high in let c = h.room in let d = h.size in omega (arith, a, b, c, d, kind)

  grows : (j : ℕ) → slice_index s.words j ≤ slice_index (set s.words i new) j
  grows j = ⊎_elim
      (λ (e : j ≡ i). let a = get_or-set_same s.words i new 0 inside in subst (λ (m : ℕ). slice_index s.words m ≤ slice_index (set s.words i new) m) (sym e) (omega (arith, a, found)))
      (λ (ne : j ≢ i). let a = get_or-set_other s.words i j new 0 ne in omega (arith, a))
      (dec_eq j i)

  counts_now : (j : ℕ) → j < 3 → slice_index (set s.words i new) (word_of v.number j) ≡ slice_index (set v.counts k new) j
  counts_now j lt = ⊎_elim
      (λ (e : j ≡ k). subst (λ (m : ℕ). slice_index (set s.words i new) (word_of v.number m) ≡ slice_index (set v.counts k new) m) (sym e)
      (get_or-set_same s.words i new 0 inside ∙ sym (get_or-set_same v.counts k new 0 (let z = mine.counted.kinds in omega (arith, z, kind)))))
      (λ (ne : j ≢ k). get_or-set_other s.words i (word_of v.number j) new 0 (λ e. omega (arith, ne, e)) ∙ (mine.counted.words_are j lt ∙ sym (get_or-set_other v.counts k j new 0 ne)))
      (dec_eq j k)

  mine_now : IsPart n h.made (set s.words i new) (adds k v)
  mine_now = record {
    adder = λ is. record {
      same = mine.same;
      counted = record { low = mine.counted.low; high = mine.counted.high; words_are = counts_now; kinds = length-set v.counts k new ∙ mine.counted.kinds };
    };
    reader = λ is. absurd (cc (role));
  }

  others : (j : ℕ) (u : View) → j ≢ id → get_elem? s.views j ≡ some u → IsPart n h.made (set s.words i new) u
  others j u ne e = record {
    adder = λ is.
        let a = (h.parts j u e).adder is in
        let apart : v.number ≢ u.number = λ z. alone s.views h.once id j v u v.number ne at e (adder_one v role) (subst (λ (m : ℕ). 0 < holds m u) (sym z) (adder_one u is)) in
        record { same = a.same; counted = counted_other h.made s.words i new u.number u.counts (λ m lt. words_apart v.number u.number m k mine.counted.low a.counted.low lt kind apart) a.counted };
    reader = λ is.
        let r = (h.parts j u e).reader is in
        record {
          same = r.same;
          made' = r.made';
          seen = λ m. let x = r.seen m in let y = grows m in omega (arith, x, y);
          size = r.size;
          known = λ m d lt.
              let t = get_or u.known m d in
              let c = r.known m d lt in
              let apart : v.number ≢ t.number = λ z. alone s.views h.once id j v u v.number ne at e (adder_one v role) (subst (λ (q : ℕ). 0 < holds q u) (sym z) (known_one u m d is lt)) in
              counted_other h.made s.words i new t.number t.counts (λ q ql. words_apart v.number t.number q k mine.counted.low c.low ql kind apart) c;
        };
  }

  added : Counted n (record { words = set s.words i new; homes = s.homes; views = set s.views id (adds k v) })
  added = record {
    made = h.made;
    room = h.room;
    size = length-set s.words i new ∙ h.size;
    parts = each_set (λ (u : View). IsPart n h.made (set s.words i new) u) s.views id (adds k v) mine_now others;
    once = λ m. let t = total_set (holds m) s.views id v (adds k v) at in let a = holds_adder m v role in let b = holds_adder m (adds k v) role in let o = h.once m in omega (arith, t, a, b, o);
    vacant = λ m le. let high = mine.counted.high in let low = mine.counted.low in get_or-set_other s.words i m new 0 (λ e. omega (arith, e, le, high, low, kind)) ∙ h.vacant m le;
    small = λ m. ⊎_elim
        (λ (e : m ≡ i). let a = get_or-set_same s.words i new 0 inside in subst (λ (q : ℕ). slice_index (set s.words i new) q ≤ most) (sym e) (omega (arith, a, room)))
        (λ (ne : m ≢ i). let a = get_or-set_other s.words i m new 0 ne in let b = h.small m in omega (arith, a, b))
        (dec_eq m i);
  }

  written : (slice_index s.words i + 1) % 18446744073709551616 ≡ new
  written = omega (arith, found, room)

pub adds_allowed : (n slots id : ℕ) (me : Me ℕ View) (k : ℕ) → me.0.role ≡ AddsRole → k < 3 → slice_index me.0.counts k < most
    → Allows (Counted n) slots id me (word_of me.0.number k) (λ x. (x + 1) % 2 ^ 64) (Adds (step slots (word_of me.0.number k) 1 0 none) me)
adds_allowed n slots id me k role kind room s h sized at fits =
    let number = me.0.number in
    let place : 3 * (number - 1) + k - 3 * (number - 1) ≡ k = omega arith in (
      adds k me.0,
      keeps,
      tt,
      subst (λ (x : ℕ). Counted n (record { words = set s.words (word_of number k) x; homes = s.homes; views = set s.views id (adds k me.0) })) (sym (written n slots id me k role kind room s h at)) (added n slots id me k role kind room s h at),
      ap (λ (j : ℕ). (adds j me.0, me.1)) (sym place),
    )

-- The reader reads a word.
module _ (n id : ℕ) (v : View) (role : v.role ≡ ReadsRole) (i : ℕ) (inside : i < 3 * n) (s : State ℕ View) (h : Counted n s) (at : get_elem? s.views id ≡ some v) where
  abbrev r_x : ℕ
  r_x = slice_index s.words i

  r_mine : IsReader n h.made s.words v
  r_mine = (h.parts id v at).reader role

  r_now : IsPart n h.made s.words (sees i r_x v)
  r_now = record {
    adder = λ is. absurd (cc (role));
    reader = λ is. record {
      same = r_mine.same;
      made' = r_mine.made';
      seen = λ m. ⊎_elim
          (λ (e : m ≡ i). let z = r_mine.size in let a = get_or-set_same v.seen i r_x 0 (omega (arith, z, inside)) in subst (λ (q : ℕ). slice_index (set v.seen i r_x) q ≤ slice_index s.words q) (sym e) (omega (arith, a)))
          (λ (ne : m ≢ i). let a = get_or-set_other v.seen i m r_x 0 ne in let b = r_mine.seen m in omega (arith, a, b))
          (dec_eq m i);
      size = length-set v.seen i r_x ∙ r_mine.size;
      known = r_mine.known;
    };
  }

  r_counted : Counted n (record { words = s.words; homes = s.homes; views = set s.views id (sees i r_x v) })
  r_counted = record {
    made = h.made;
    room = h.room;
    size = h.size;
    parts = each_set (λ (u : View). IsPart n h.made s.words u) s.views id (sees i r_x v) r_now (λ j u ne e. h.parts j u e);
    once = λ m. let t = total_set (holds m) s.views id v (sees i r_x v) at in let a = holds_reader m v role in let b = holds_reader m (sees i r_x v) role in let o = h.once m in omega (arith, t, a, b, o);
    vacant = h.vacant;
    small = h.small;
  }

pub reads_allowed : (n slots id : ℕ) (me : Me ℕ View) (i : ℕ) → me.0.role ≡ ReadsRole → i < 3 * n → Allows (Counted n) slots id me i (λ x. x) (Reads (step slots i 0 0 none) me)
reads_allowed n slots id me i role inside s h sized at fits =
    let v = me.0 in
    let x = slice_index s.words i in
    let mine = r_mine n id v role i inside s h at in (
      sees i x v,
      keeps,
      tt,
      subst (λ (ws : List ℕ). Counted n (record { words = ws; homes = s.homes; views = set s.views id (sees i x v) })) (sym (set-get_or s.words i 0)) (r_counted n id v role i inside s h at),
      record {
        view = refl;
        rises = mine.seen i;
        exact = λ m d lt k kl e. subst (λ (j : ℕ). slice_index s.words j ≡ slice_index (get_or v.known m d).counts k) (sym e) ((mine.known m d lt).words_are k kl);
        distinct = λ m. let t = total_one (holds m) s.views id v at in let a = holds_reader m v role in let o = h.once m in omega (arith, t, a, o);
        small = h.small i;
      },
    )

zeros : (k : ℕ) → slice_index (0 ∷ 0 ∷ 0 ∷ []) k ≡ 0
zeros zero = refl
zeros (suc zero) = refl
zeros (suc (suc zero)) = refl
zeros (suc (suc (suc k))) = refl

-- The reader makes the next adder.
module _ (n id : ℕ) (v : View) (role : v.role ≡ ReadsRole) (room : v.made < v.adders) (s : State ℕ View) (h : Counted n s) (at : get_elem? s.views id ≡ some v) where
  m_mine : IsReader n h.made s.words v
  m_mine = (h.parts id v at).reader role

  m_later : (q : ℕ) (cs : List ℕ) → IsCounted h.made s.words q cs → IsCounted (h.made + 1) s.words q cs
  m_later q cs c = let l = c.high in record { low = c.low; high = omega (arith, l); words_are = c.words_are; kinds = c.kinds }

  m_now : IsPart n (h.made + 1) s.words (makes v)
  m_now = record {
    adder = λ is. absurd (cc (role));
    reader = λ is. record {
      same = m_mine.same;
      made' = ap (λ (m : ℕ). m + 1) m_mine.made';
      seen = m_mine.seen;
      size = m_mine.size;
      known = λ m d lt. m_later (get_or v.known m d).number (get_or v.known m d).counts (m_mine.known m d lt);
    };
  }

  m_newborn : IsPart n (h.made + 1) s.words (newborn v)
  m_newborn = let m = m_mine.made' in record {
    adder = λ is. record {
      same = m_mine.same;
      counted = record {
        low = omega arith;
        high = omega (arith, m);
        words_are = λ k lt. h.vacant (word_of (v.made + 1) k) (omega (arith, m)) ∙ sym (zeros k);
        kinds = refl;
      };
    };
    reader = λ is. absurd (cc);
  }

  m_others : (j : ℕ) (u : View) → j ≢ id → get_elem? s.views j ≡ some u → IsPart n (h.made + 1) s.words u
  m_others j u ne e = record {
    adder = λ is. let a = (h.parts j u e).adder is in record { same = a.same; counted = m_later u.number u.counts a.counted };
    reader = λ is. absurd (alone s.views h.once id j v u 0 ne at e (reader_one v role) (reader_one u is));
  }

  m_none_known : (ts : List Tally) → All (λ t. IsCounted h.made s.words t.number t.counts) ts → times (v.made + 1) (numbers_known ts) ≡ 0
  m_none_known [] a = refl
  m_none_known (t ∷ ts) a =
      let here = All-head (λ (x : Tally). IsCounted h.made s.words x.number x.counts) t ts a in
      let high = here.high in
      let m = m_mine.made' in
      let z = times_other t.number (v.made + 1) (λ e. omega (arith, high, m, e)) in
      let later = m_none_known ts (All-tail (λ (x : Tally). IsCounted h.made s.words x.number x.counts) t ts a) in
      omega (arith, z, later)

  m_none_by : (j : ℕ) (u : View) → get_elem? s.views j ≡ some u → (r : Role) → u.role ≡ r → holds (v.made + 1) u ≡ 0
  m_none_by j u e ReadsRole is =
      let t = (h.parts j u e).reader is in
      let a = holds_reader (v.made + 1) u is in
      let b = m_none_known u.known t.known in
      let c = times_other 0 (v.made + 1) (λ z. omega (arith, z)) in
      omega (arith, a, b, c)
  m_none_by j u e AddsRole is =
      let r = (h.parts j u e).adder is in
      let high = r.counted.high in
      let m = m_mine.made' in
      let a = holds_adder (v.made + 1) u is in
      let c = times_other u.number (v.made + 1) (λ z. omega (arith, z, high, m)) in
      omega (arith, a, c)
  m_none_by j u e Spent is = ap (λ (x : Role). times (v.made + 1) (numbers_of x u)) is

  m_once : (k : ℕ) → total (holds k) (set s.views id (makes v) ++ newborn v ∷ []) ≤ 1
  m_once k =
      let t = total_set (holds k) s.views id v (makes v) at in
      let z = total_snoc (holds k) (set s.views id (makes v)) (newborn v) in
      let a = holds_reader k v role in
      let c = holds_reader k (makes v) role in
      let o = h.once k in
      ⊎_elim
      (λ (e : k ≡ v.made + 1).
      let y : total (holds k) s.views ≡ 0 = subst (λ (m : ℕ). total (holds m) s.views ≡ 0) (sym e) (total_none (holds (v.made + 1)) s.views (λ j u f. m_none_by j u f u.role refl)) in
      let one = times_one k (v.made + 1) in
      omega (arith, t, z, a, c, y, one))
      (λ (ne : k ≢ v.made + 1).
      let y = times_other (v.made + 1) k (λ e. ne (sym e)) in
      omega (arith, t, z, a, c, o, y))
      (dec_eq k (v.made + 1))

  m_counted : Counted n (record { words = s.words; homes = s.homes; views = set s.views id (makes v) ++ newborn v ∷ [] })
  m_counted = record {
    made = h.made + 1;
    room = let z = m_mine.same in let m = m_mine.made' in omega (arith, room, z, m);
    size = h.size;
    parts = each_snoc (λ (u : View). IsPart n (h.made + 1) s.words u) s.views id (makes v) (newborn v) m_now m_newborn m_others;
    once = m_once;
    vacant = λ i le. h.vacant i (omega (arith, le));
    small = h.small;
  }

pub splits : (n id : ℕ) (v : View) → v.role ≡ ReadsRole → v.made < v.adders → Splits {S = ℕ} (Counted n) id v (makes v) (newborn v)
splits n id v role room s h at = m_counted n id v role room s h at

-- The reader gives the one adder back that it took in.
lent_few : (m adders : ℕ) (l : List Tally) → holds m (lent adders l) ≤ times m (numbers_known l)
lent_few m adders [] = omega arith
lent_few m adders (t ∷ []) = omega arith
lent_few m adders (t ∷ (u ∷ l)) = omega arith

module _ (n id : ℕ) (v : View) (role : v.role ≡ ReadsRole) (s : State ℕ View) (h : Counted n s) (at : get_elem? s.views id ≡ some v) where
  g_mine : IsReader n h.made s.words v
  g_mine = (h.parts id v at).reader role

  g_now : IsPart n h.made s.words (gives_back v)
  g_now = record {
    adder = λ is. absurd (cc (role));
    reader = λ is. record { same = g_mine.same; made' = g_mine.made'; seen = g_mine.seen; size = g_mine.size; known = All-nil (λ (t : Tally). IsCounted h.made s.words t.number t.counts) };
  }

  g_lent : (l : List Tally) → All (λ t. IsCounted h.made s.words t.number t.counts) l → IsPart n h.made s.words (lent v.adders l)
  g_lent [] each = spent_part n h.made s.words
  g_lent (t ∷ []) each = record {
    adder = λ is. record { same = g_mine.same; counted = All-head (λ (x : Tally). IsCounted h.made s.words x.number x.counts) t [] each };
    reader = λ is. absurd (cc);
  }
  g_lent (t ∷ (u ∷ l)) each = spent_part n h.made s.words

  g_once : (m : ℕ) → total (holds m) (set s.views id (gives_back v) ++ given_back v ∷ []) ≤ 1
  g_once m =
      let t = total_set (holds m) s.views id v (gives_back v) at in
      let z = total_snoc (holds m) (set s.views id (gives_back v)) (given_back v) in
      let a = holds_reader m v role in
      let b = holds_reader m (gives_back v) role in
      let c = times-append m (0 ∷ []) (numbers_known v.known) in
      let f = lent_few m v.adders v.known in
      let o = h.once m in
      omega (arith, t, z, a, b, c, f, o)

  g_counted : Counted n (record { words = s.words; homes = s.homes; views = set s.views id (gives_back v) ++ given_back v ∷ [] })
  g_counted = record {
    made = h.made;
    room = h.room;
    size = h.size;
    parts = each_snoc (λ (u : View). IsPart n h.made s.words u) s.views id (gives_back v) (given_back v) g_now (g_lent v.known g_mine.known) (λ j u ne e. h.parts j u e);
    once = g_once;
    vacant = h.vacant;
    small = h.small;
  }

pub splits_back : (n id : ℕ) (v : View) → v.role ≡ ReadsRole → Splits {S = ℕ} (Counted n) id v (gives_back v) (given_back v)
splits_back n id v role s h at = g_counted n id v role s h at

-- An adder lends its seat.
pub splits_whole : (n id : ℕ) (v : View) → Splits {S = ℕ} (Counted n) id v spent v
splits_whole n id v s h at = record {
  made = h.made;
  room = h.room;
  size = h.size;
  parts = each_snoc (λ (u : View). IsPart n h.made s.words u) s.views id spent v (spent_part n h.made s.words) (h.parts id v at) (λ j u ne e. h.parts j u e);
  once = λ m. let t = total_set (holds m) s.views id v spent at in let z = total_snoc (holds m) (set s.views id spent) v in let o = h.once m in omega (arith, t, z, o);
  vacant = h.vacant;
  small = h.small;
}

-- The reader takes in an adder.
module _ (n id : ℕ) (v : View) (other : ℕ) (u : View) (reads : v.role ≡ ReadsRole) (adds' : u.role ≡ AddsRole) (s : State ℕ View) (h : Counted n s) (at : get_elem? s.views id ≡ some v) (two : ¬ (other ≡ id)) (at' : get_elem? (set s.views id (takes_in v u)) other ≡ some u) where
  abbrev j_both : View
  j_both = takes_in v u

  j_was : get_elem? s.views other ≡ some u
  j_was = ⊎_elim (λ (t : (other ≡ id) × (j_both ≡ u)). absurd (two t.0)) (λ (t : (other ≢ id) × (get_elem? s.views other ≡ some u)). t.1) (at_set s.views id other j_both u at')

  j_mine : IsReader n h.made s.words v
  j_mine = (h.parts id v at).reader reads

  j_theirs : IsAdder n h.made s.words u
  j_theirs = (h.parts other u j_was).adder adds'

  j_now : IsPart n h.made s.words j_both
  j_now = record {
    adder = λ is. absurd (cc (reads));
    reader = λ is. record {
      same = j_mine.same;
      made' = j_mine.made';
      seen = j_mine.seen;
      size = j_mine.size;
      known = All-push (λ (t : Tally). IsCounted h.made s.words t.number t.counts) v.known (tally u) j_mine.known j_theirs.counted;
    };
  }

  j_counted : Counted n (record { words = s.words; homes = s.homes; views = set (set s.views id j_both) other spent })
  j_counted = record {
    made = h.made;
    room = h.room;
    size = h.size;
    parts = each_set (λ (y : View). IsPart n h.made s.words y) (set s.views id j_both) other spent (spent_part n h.made s.words)
        (λ j y ne e. each_set (λ (z : View). IsPart n h.made s.words z) s.views id j_both j_now (λ i z apart f. h.parts i z f) j y e);
    once = λ m.
        let t = total_set (holds m) s.views id v j_both at in
        let y = total_set (holds m) (set s.views id j_both) other u spent at' in
        let a = holds_reader m v reads in
        let b = holds_reader m j_both reads in
        let c = holds_adder m u adds' in
        let d : times m (numbers_known j_both.known) ≡ times m (numbers_known v.known) + times m (u.number ∷ []) =
        ap (λ (l : List ℕ). times m l) (map-append (λ (r : Tally). r.number) v.known (tally u ∷ [])) ∙ times-append m (numbers_known v.known) (u.number ∷ []) in
        let o = h.once m in
        omega (arith, t, y, a, b, c, d, o);
    vacant = h.vacant;
    small = h.small;
  }

pub joins : (n id : ℕ) (v : View) (other : ℕ) (u : View) → v.role ≡ ReadsRole → u.role ≡ AddsRole → Joins {S = ℕ} (Counted n) id v other u (takes_in v u) spent
joins n id v other u reads adds' s h at two at' = j_counted n id v other u reads adds' s h at two at'

replicate_index : (m i : ℕ) → slice_index (replicate m 0) i ≡ 0
replicate_index zero i = refl
replicate_index (suc m) zero = refl
replicate_index (suc m) (suc i) = replicate_index m i

begins_parts : (n i : ℕ) (v : View) → get_elem? (first n ∷ []) i ≡ some v → IsPart n 0 (replicate (3 * n) 0) v
begins_parts n zero v e = subst (λ (u : View). IsPart n 0 (replicate (3 * n) 0) u) (some-injective (first n) v e) (record {
  adder = λ x. absurd (cc);
  reader = λ x. record {
    same = refl;
    made' = refl;
    seen = λ i. omega arith;
    size = length-replicate (3 * n) 0;
    known = All-nil (λ (t : Tally). IsCounted 0 (replicate (3 * n) 0) t.number t.counts);
  };
})
begins_parts n (suc i) v e = absurd (some-ne-none v (sym e))

pub begins : (n : ℕ) (words : List ℕ) → words ≡ replicate (3 * n) 0 → Counted n (opening words [] (first n))
begins n words is = subst (λ (ws : List ℕ). Counted n (opening ws [] (first n))) (sym is) (record {
  made = 0;
  room = omega arith;
  size = length-replicate (3 * n) 0;
  parts = begins_parts n;
  once = λ m. let t = times_one m 0 in omega (arith, t);
  vacant = λ i le. replicate_index (3 * n) i;
  small = λ i. let z = replicate_index (3 * n) i in omega (arith, z);
})
