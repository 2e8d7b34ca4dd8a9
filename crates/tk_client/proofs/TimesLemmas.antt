-- Histograms beside tables: those of tasks that are gone leave, and what a line tells is of none of these.
use Rattle.std.proofs.Common.{◌≡◌, ℕ, zero, suc, ◌+◌, ◌<◌, get_or, add-one, List, [], ◌∷◌, ◌++◌, length, take, Bool, true, false, cond, nat_eq, Option, Some, None, refl, ap, ap₂, sym, ◌∙◌, arith}
use Rattle.std.specs.Prelude.{map, filter, option_map, is_none, is_some, not, ◌||◌}
use Rattle.std.specs.List.{list_any}
use Rattle.std.proofs.lemmas.Bool.{or_parts, eqb-true, eq-eqb}
use Rattle.tk_stream.specs.Tables.{item_with, is_among, staying}
use Rattle.tk_stream.specs.Lines.{LineView, is_new, gone_of, times_of}
use Rattle.tk_stream.specs.Applied.{times_after, times_told}
use Rattle.tk_stream.specs.Times.{TaskTimes, times_id}
use Rattle.tk_stream.specs.Tables.{TablesView}
use Rattle.tk_client.specs.declared.taking.Finding.TheVariants.{Sound, Repeats}
use Rattle.tk_ids.specs.declared.info.TaskInfo.{TaskInfo}
use Rattle.tk_client.specs.Taking.{new_id, repeats_times, strange_times, is_strange_task, has_twice}
use Rattle.tk_client.specs.Applying.{Begins, AreKeyed, finding}
use Rattle.tk_client.proofs.KeyedLemmas.{counts-grown, are-counted}

pub begins-append : {A : Type 0} (xs more : List A) → Begins xs (xs ++ more)
begins-append [] more = tt
begins-append (x ∷ xs) more = (refl, begins-append xs more)

pub take-begins : {A : Type 0} (xs ys : List A) → Begins xs ys → take (length xs) ys ≡ xs
take-begins [] ys h = refl
take-begins (x ∷ xs) [] h = absurd h
take-begins (x ∷ xs) (y ∷ ys) h = ap₂ (λ z zs. z ∷ zs) h.0 (take-begins xs ys h.1)

-- of none told, none is gone
pub none_among : (gone : List ℕ) → list_any (is_among []) gone ≡ false
none_among [] = refl
none_among (g ∷ gone) = none_among gone

-- ---- one that is gone after others

or_false : (b : Bool) → (b || false) ≡ b
or_false true = refl
or_false false = refl

among_last : (gone : List ℕ) (id n : ℕ) → is_among (gone ++ id ∷ []) n ≡ (is_among gone n || nat_eq n id)
among_last [] id n = or_false (nat_eq n id)
among_last (g ∷ gone) id n = last (nat_eq n g) (among_last gone id n)
  where
    last : (b : Bool) → is_among (gone ++ id ∷ []) n ≡ (is_among gone n || nat_eq n id) → (b || is_among (gone ++ id ∷ []) n) ≡ ((b || is_among gone n) || nat_eq n id)
    last true e = refl
    last false e = e

staying_then : (gone : List ℕ) (id : ℕ) (xs : List TaskTimes) → staying times_id (id ∷ []) (staying times_id gone xs) ≡ staying times_id (gone ++ id ∷ []) xs
staying_then gone id [] = refl
staying_then gone id (x ∷ xs) = by (is_among gone x.0) (nat_eq x.0 id) refl (among_last gone id x.0) (staying_then gone id xs)
  where
    by : (there here : Bool) → nat_eq x.0 id ≡ here → is_among (gone ++ id ∷ []) x.0 ≡ (there || here)
        → staying times_id (id ∷ []) (staying times_id gone xs) ≡ staying times_id (gone ++ id ∷ []) xs
        → staying times_id (id ∷ []) (cond (not there) (x ∷ staying times_id gone xs) (staying times_id gone xs)) ≡ cond (not (is_among (gone ++ id ∷ []) x.0)) (x ∷ staying times_id (gone ++ id ∷ []) xs) (staying times_id (gone ++ id ∷ []) xs)
    by true here is e rest = rw e rest
    by false true is e rest = rw (e, is) rest
    by false false is e rest = rw (e, is) (ap (λ ys. x ∷ ys) rest)

pub left_next : (gone : List ℕ) (id : ℕ) (xs ys : List TaskTimes) → ys ≡ staying times_id gone xs → staying times_id (id ∷ []) ys ≡ staying times_id (gone ++ id ∷ []) xs
left_next gone id xs ys e = ap (staying times_id (id ∷ [])) e ∙ staying_then gone id xs

-- ---- what is told is of none that is gone

-- none of these is gone
abbrev StayAll : List ℕ → List TaskTimes → Type 0
StayAll gone [] = Unit {0}
StayAll gone (t ∷ ts) = (is_among gone t.0 ≡ false) × StayAll gone ts

any_other : (n : ℕ) (gone : List ℕ) (p : ℕ → Bool) → list_any p gone ≡ false → p n ≡ true → is_among gone n ≡ false
any_other n [] p h here = refl
any_other n (g ∷ gone) p h here =
    let q = or_parts (p g) (list_any p gone) h in
    let other : nat_eq n g ≡ false = by (nat_eq n g) refl q.0 in
    rw other (any_other n gone p q.1 here)
  where
    by : (b : Bool) → nat_eq n g ≡ b → p g ≡ false → b ≡ false
    by true e none = sym here ∙ ap p (eqb-true n g e) ∙ none
    by false e none = refl

among_self : (ts : List TaskTimes) (gone : List ℕ) (told : List ℕ) → ((n : ℕ) → is_among (map times_id ts) n ≡ true → is_among told n ≡ true) → list_any (is_among told) gone ≡ false → StayAll gone ts
among_self [] gone told inside h = tt
among_self (t ∷ ts) gone told inside h = (
  any_other t.0 gone (is_among told) h (inside t.0 (rw (eq-eqb t.0 t.0 refl) refl)),
  among_self ts gone told (λ n is. inside n (more (nat_eq n t.0) (is_among (map times_id ts) n) is)) h,
)
  where
    more : (b c : Bool) → c ≡ true → (b || c) ≡ true
    more true c e = refl
    more false c e = e

-- a list of which none is gone stays
all_stay : (gone : List ℕ) (ts : List TaskTimes) (p : TaskTimes → Bool) → StayAll gone ts → staying times_id gone (filter p ts) ≡ filter p ts
all_stay gone [] p h = refl
all_stay gone (t ∷ ts) p h = by (p t) (all_stay gone ts p h.1)
  where
    by : (b : Bool) → staying times_id gone (filter p ts) ≡ filter p ts → staying times_id gone (cond b (t ∷ filter p ts) (filter p ts)) ≡ cond b (t ∷ filter p ts) (filter p ts)
    by true e = rw h.0 (ap (λ xs. t ∷ xs) e)
    by false e = e

staying_append : (gone : List ℕ) (xs ys : List TaskTimes) → staying times_id gone (xs ++ ys) ≡ staying times_id gone xs ++ staying times_id gone ys
staying_append gone [] ys = refl
staying_append gone (x ∷ xs) ys = by (is_among gone x.0) (staying_append gone xs ys)
  where
    by : (b : Bool) → staying times_id gone (xs ++ ys) ≡ staying times_id gone xs ++ staying times_id gone ys
        → cond (not b) (x ∷ staying times_id gone (xs ++ ys)) (staying times_id gone (xs ++ ys)) ≡ cond (not b) (x ∷ staying times_id gone xs) (staying times_id gone xs) ++ staying times_id gone ys
    by true e = e
    by false e = ap (λ zs. x ∷ zs) e

-- one that isn't gone is there as before
found_as : (gone : List ℕ) (id : ℕ) (xs : List TaskTimes) → is_among gone id ≡ false → item_with times_id id (staying times_id gone xs) ≡ item_with times_id id xs
found_as gone id [] h = refl
found_as gone id (x ∷ xs) h = by (is_among gone x.0) (nat_eq id x.0) refl refl (found_as gone id xs h)
  where
    by : (left here : Bool) → is_among gone x.0 ≡ left → nat_eq id x.0 ≡ here → item_with times_id id (staying times_id gone xs) ≡ item_with times_id id xs
        → item_with times_id id (cond (not left) (x ∷ staying times_id gone xs) (staying times_id gone xs)) ≡ cond here (Some x) (item_with times_id id xs)
    by true true is same e = absurd (apart is (ap (is_among gone) (sym (eqb-true id x.0 same)) ∙ h))
      where
        apart : is_among gone x.0 ≡ true → is_among gone x.0 ≡ false → ⊥
        apart a b = absurd (cc)
    by true false is same e = e
    by false true is same e = rw same refl
    by false false is same e = rw same e

new_as : (gone : List ℕ) (old ts : List TaskTimes) → StayAll gone ts → filter (is_new times_id old) ts ≡ filter (is_new times_id (staying times_id gone old)) ts
new_as gone old [] h = refl
new_as gone old (t ∷ ts) h =
    ap₂ (λ b rest. cond b (t ∷ rest) rest) (ap is_none (sym (found_as gone t.0 old h.0))) (new_as gone old ts h.1)

-- ---- histograms after a line

-- those that were there and those that went in, without those of tasks that are gone
pub grown_left : (old : List TaskTimes) (l : LineView) → repeats_times l ≡ false
    → staying times_id (gone_of l).tasks (old ++ filter (is_new times_id old) (times_of l))
    ≡ staying times_id (gone_of l).tasks old ++ filter (is_new times_id (staying times_id (gone_of l).tasks old)) (times_of l)
grown_left old l sound =
    let gone = (gone_of l).tasks in
    let told = times_of l in
    let apart : StayAll gone told = among_self told gone (map times_id told) (λ n is. is) (or_parts (has_twice (map times_id told)) (list_any (is_among (map times_id told)) gone) sound).1 in
    staying_append gone old (filter (is_new times_id old) told)
    ∙ ap (λ xs. staying times_id gone old ++ xs) (all_stay gone told (is_new times_id old) apart ∙ new_as gone old told apart)

pub told_once : (l : LineView) → repeats_times l ≡ false → has_twice (map times_id (times_of l)) ≡ false
told_once l sound = (or_parts (has_twice (map times_id (times_of l))) (list_any (is_among (map times_id (times_of l))) (gone_of l).tasks) sound).0

-- each that is told is there then
pub told_there : (left : List TaskTimes) (l : LineView) → AreKeyed times_id (left ++ filter (is_new times_id left) (times_of l)) (times_of l)
told_there left l = are-counted times_id left (times_of l)

-- and what is told takes its place
pub all_told : (old : List TaskTimes) (l : LineView) → repeats_times l ≡ false
    → times_told (staying times_id (gone_of l).tasks old ++ filter (is_new times_id (staying times_id (gone_of l).tasks old)) (times_of l)) (times_of l) ≡ times_after old l
all_told old l sound = counts-grown times_id (staying times_id (gone_of l).tasks old) (times_of l) (told_once l sound)

-- none has left
pub none_left : (xs : List TaskTimes) → xs ≡ staying times_id [] xs
none_left [] = refl
none_left (x ∷ xs) = ap (λ ys. x ∷ ys) (none_left xs)

pub take_next : (gone : List ℕ) (i id : ℕ) → i < length gone → id ≡ get_or gone i id → take (i + 1) gone ≡ take i gone ++ id ∷ []
take_next gone i id lt is = rw add-one (next gone i lt is)
  where
    next : (gone : List ℕ) (i : ℕ) → i < length gone → id ≡ get_or gone i id → take (suc i) gone ≡ take i gone ++ id ∷ []
    next [] i lt is = absurd (omega (arith, lt))
    next (g ∷ gone) zero lt is = ap (λ x. x ∷ []) (sym is)
    next (g ∷ gone) (suc i) lt is = ap (λ xs. g ∷ xs) (next gone i (omega (arith, lt)) is)

-- ---- what is found

-- in a line that tells no histogram nothing is found
pub none_found : (base : TablesView) (l : LineView) → times_of l ≡ [] → Sound ≡ finding (repeats_times l) (strange_times base l)
none_found base l none =
    sym (ap₂ finding
    (ap (λ (ts : List TaskTimes). has_twice (map times_id ts) || list_any (is_among (map times_id ts)) (gone_of l).tasks) none ∙ none_among (gone_of l).tasks)
    (ap (list_any (λ (t : TaskTimes). is_strange_task base l.new_tasks (times_id t))) none))

-- whether one is told twice, whether one is gone, and whether one is strange
pub found_as_told : (base : TablesView) (l : LineView) (twice gone strange : Bool) → has_twice (map times_id (times_of l)) ≡ twice → list_any (is_among (map times_id (times_of l))) (gone_of l).tasks ≡ gone
    → strange_times base l ≡ strange → finding (twice || gone) strange ≡ finding (repeats_times l) (strange_times base l)
found_as_told base l twice gone strange a b c = sym (ap₂ finding (ap₂ (λ x y. x || y) a b) c)

pub repeats_found : (base : TablesView) (l : LineView) → repeats_times l ≡ true → Repeats ≡ finding (repeats_times l) (strange_times base l)
repeats_found base l is = sym (ap (λ b. finding b (strange_times base l)) is)

-- what wasn't found isn't there
pub was_none : {A B : Type 0} (f : A → B) (o : Option A) (p : Option B) (b : Bool) → option_map f o ≡ p → b ≡ is_some o → b ≡ false → is_some p ≡ false
was_none f (Some x) p b e is none = absurd (cc)
was_none f None p b e is none = ap is_some (sym e)

-- ---- the ids of new tasks

among_map : (front : List TaskInfo) (x : TaskInfo) (id : ℕ) → is_among (map new_id (front ++ x ∷ [])) id ≡ (is_among (map new_id front) id || nat_eq id x.id)
among_map [] x id = or_false (nat_eq id x.id)
among_map (y ∷ front) x id = by (nat_eq id y.id) (among_map front x id)
  where
    by : (b : Bool) → is_among (map new_id (front ++ x ∷ [])) id ≡ (is_among (map new_id front) id || nat_eq id x.id)
        → (b || is_among (map new_id (front ++ x ∷ [])) id) ≡ ((b || is_among (map new_id front) id) || nat_eq id x.id)
    by true e = refl
    by false e = e

-- one more went in, or was there
pub among_more : (keys next : List ℕ) (front : List TaskInfo) (x : TaskInfo) → next ≡ cond (is_among keys x.id) keys (keys ++ x.id ∷ [])
    → ((id : ℕ) → is_among keys id ≡ is_among (map new_id front) id) → (id : ℕ) → is_among next id ≡ is_among (map new_id (front ++ x ∷ [])) id
among_more keys next front x is same id = ap (λ ks. is_among ks id) is ∙ by (is_among keys x.id) refl ∙ sym (among_map front x id)
  where
    old : (is_among keys id || nat_eq id x.id) ≡ (is_among (map new_id front) id || nat_eq id x.id)
    old = ap (λ b. b || nat_eq id x.id) (same id)

    there : (b : Bool) → nat_eq id x.id ≡ b → is_among keys x.id ≡ true → is_among keys id ≡ (is_among keys id || b)
    there true e h = let is_id : is_among keys id ≡ true = ap (is_among keys) (eqb-true id x.id e) ∙ h in rw is_id refl
    there false e h = sym (or_false (is_among keys id))

    by : (b : Bool) → is_among keys x.id ≡ b → is_among (cond b keys (keys ++ x.id ∷ [])) id ≡ (is_among (map new_id front) id || nat_eq id x.id)
    by true h = there (nat_eq id x.id) refl h ∙ old
    by false h = among_last keys x.id id ∙ old

pub infos_next : (infos : List TaskInfo) (i : ℕ) (x : TaskInfo) → i < length infos → x ≡ get_or infos i x → take (i + 1) infos ≡ take i infos ++ x ∷ []
infos_next infos i x lt is = rw add-one (next infos i lt is)
  where
    next : (infos : List TaskInfo) (i : ℕ) → i < length infos → x ≡ get_or infos i x → take (suc i) infos ≡ take i infos ++ x ∷ []
    next [] i lt is = absurd (omega (arith, lt))
    next (y ∷ infos) zero lt is = ap (λ z. z ∷ []) (sym is)
    next (y ∷ infos) (suc i) lt is = ap (λ zs. y ∷ zs) (next infos i (omega (arith, lt)) is)
