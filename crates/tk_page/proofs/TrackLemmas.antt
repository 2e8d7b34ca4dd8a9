-- The tracks of tasks, one line more.
use Rattle.std.proofs.Common.{◌≡◌, ℕ, zero, suc, ◌+◌, ◌-◌, ◌^◌, ◌<◌, ◌≤◌, List, [], ◌∷◌, ◌++◌, length, get_or, take, map, slice_get, Bool, true, false, cond, not, nat_eq, Option, Some, None, is_some, Result, Ok, Err, OnOk, refl, ap, sym, ◌∙◌, add-one, length-append, arith, subst}
use Rattle.std.specs.Prelude.{IfSome, drop, filter, option_map, position, unwrap_or, ◌&&◌}
use Rattle.std.specs.List.{AllByRecursion, IsDistinct}
use Rattle.std.specs.Map.{keys_of, lookup, values_of}
use Rattle.std.specs.Option.{option_map_or}
use Rattle.std.proofs.Math.Seq.{drop-nil}
use Rattle.std.proofs.lemmas.Bool.{eqb-true}
use Rattle.std.proofs.lemmas.List.{drop-append-le, drop_all, length-drop, length-map, length-take, map-append, take-append-drop}
use Rattle.std.proofs.lemmas.List.Quantifiers.{position-Some}
use Rattle.std.proofs.lemmas.List.Sums.{fold-append}
use Rattle.indexmap.specs.IndexMap.{get}
use Rattle.tk_client.proofs.IdLemmas.{flipped}
use Rattle.tk_client.specs.Changes.{ChangeView, Leads, left_as, left_id}
use Rattle.tk_core.specs.declared.task.row.TaskRow.{TaskRow}
use Rattle.tk_odd.proofs.RowLemmas.{after_line, set_next}
use Rattle.tk_odd.specs.Keeping.{lasts, lasts_in, row_in}
use Rattle.tk_paper.proofs.CourseLemmas.{with_item_is}
use Rattle.tk_paper.specs.Courses.{CourseView, IsCourse, no_items, with_item, with_items}
use Rattle.tk_stream.specs.Tables.{TablesView, empty_tables, is_among, task_with}
use Rattle.tk_stream.specs.Times.{TaskTimes}
use Rattle.tk_stream.specs.declared.tables.task.Task.{Task}
use Rattle.tk_page.specs.Kept.{AreTracks, Follows, FollowsAt, StandsAt, begun, caught_up, last_of, moments_of, samples_at, samples_more, samples_of, told_again, told_track}
use Rattle.tk_page.specs.Samples.{sample_of}
use Rattle.tk_page.specs.declared.sample.Sample.{Sample}
use Rattle.tk_page.specs.declared.track.Track.{Track}
use Rattle.tk_page.specs.declared.tracks.Tracks.{Tracks}
use Rattle.tk_page.proofs.HistoryLemmas.{few_samples, last_push, none_is, samples_snoc}

-- ---- moments that are caught up with

drop_drop : (at n : ℕ) (ms : List ℕ) → drop n (drop at ms) ≡ drop (at + n) ms
drop_drop zero n ms = ap (λ (k : ℕ). drop k ms) (omega arith)
drop_drop (suc at) n [] = ap (drop n) (drop-nil (suc at)) ∙ drop-nil n ∙ sym (drop-nil (suc at + n))
drop_drop (suc at) n (m ∷ ms) = let e : suc (at + n) ≡ suc at + n = omega arith in drop_drop at n ms ∙ ap (λ (k : ℕ). drop k (m ∷ ms)) e

drop_at : (ms : List ℕ) (i m : ℕ) → slice_get ms i ≡ Some m → drop i ms ≡ m ∷ drop (i + 1) ms
drop_at ms i m e = rw add-one (by ms i e)
  where
    by : (ns : List ℕ) (k : ℕ) → slice_get ns k ≡ Some m → drop k ns ≡ m ∷ drop (suc k) ns
    by [] zero f = absurd (cc)
    by [] (suc k) f = absurd (cc)
    by (n ∷ ns) zero f = let is : n ≡ m = cc in ap (λ (x : ℕ). x ∷ ns) is
    by (n ∷ ns) (suc k) f = by ns k f

-- some are passed over
pub passed_over : (old pass : CourseView Sample) (row : TaskRow) (ms : List ℕ) (at n : ℕ) → n ≤ length ms - at → ((xs : List Sample) → length xs ≡ n → pass ≡ with_items old xs)
    → with_items pass (samples_at row (drop (at + n) ms)) ≡ with_items old (samples_at row (drop at ms))
passed_over old pass row ms at n few is =
    let rest = drop at ms in
    let xs = samples_at row (take n rest) in
    let long : length xs ≡ n = (let a = length-map (take n rest) (sample_of row) in let b = length-take n rest in let d = length-drop at ms in omega (arith, a, b, d, few)) in
    ap (λ (c : CourseView Sample). with_items c (samples_at row (drop (at + n) ms))) (is xs long)
    ∙ ap (λ (ks : List ℕ). with_items (with_items old xs) (samples_at row ks)) (sym (drop_drop at n ms))
    ∙ sym (fold-append with_item old xs (samples_at row (drop n rest)))
    ∙ ap (with_items old) (sym (map-append (sample_of row) (take n rest) (drop n rest)))
    ∙ ap (λ (ks : List ℕ). with_items old (samples_at row ks)) (take-append-drop n rest)

-- one is taken
pub one_taken : (pass new : CourseView Sample) (row : TaskRow) (ms : List ℕ) (at m : ℕ) → slice_get ms at ≡ Some m → new ≡ with_item pass (sample_of row m)
    → with_items new (samples_at row (drop (at + 1) ms)) ≡ with_items pass (samples_at row (drop at ms))
one_taken pass new row ms at m e is =
    ap (λ (c : CourseView Sample). with_items c (samples_at row (drop (at + 1) ms))) is
    ∙ sym (ap (λ (ks : List ℕ). with_items pass (samples_at row ks)) (drop_at ms at m e))

-- all are
pub all_taken : (c : CourseView Sample) (row : TaskRow) (ms : List ℕ) (at : ℕ) → length ms ≤ at → with_items c (samples_at row (drop at ms)) ≡ c
all_taken c row ms at past = ap (λ (ks : List ℕ). with_items c (samples_at row ks)) (drop_all at ms past)

-- ---- one track

caught_next : (moments : List ℕ) (now : ℕ) (track : Track) → track.lines ≤ length moments
    → caught_up (moments ++ now ∷ []) track ≡ with_item (caught_up moments track) (sample_of track.row now)
caught_next moments now track within =
    ap (λ (ms : List ℕ). with_items track.course (samples_at track.row ms)) (drop-append-le track.lines moments (now ∷ []) within)
    ∙ ap (with_items track.course) (map-append (sample_of track.row) (drop track.lines moments) (now ∷ []))
    ∙ fold-append with_item track.course (samples_at track.row (drop track.lines moments)) (sample_of track.row now ∷ [])

caught_told : (moments : List ℕ) (now : ℕ) (row : TaskRow) (track : Track) → caught_up (moments ++ now ∷ []) (told_again moments now row track) ≡ with_item (caught_up moments track) (sample_of row now)
caught_told moments now row track =
    let long = length-append moments (now ∷ []) in
    all_taken (with_item (caught_up moments track) (sample_of row now)) row (moments ++ now ∷ []) (length moments + 1) (omega (arith, long))

told_is : (moments : List ℕ) (now : ℕ) (row : TaskRow) (track : Track) (xs : List Sample) → length xs ≤ 2 ^ 62 → IsCourse xs (caught_up moments track)
    → Follows (moments ++ now ∷ []) (xs ++ sample_of row now ∷ []) (Some row) (told_again moments now row track)
told_is moments now row track xs few h = record {
  within = let long = length-append moments (now ∷ []) in omega (arith, long);
  row = refl;
  course = subst (IsCourse (xs ++ sample_of row now ∷ [])) (sym (caught_told moments now row track)) (with_item_is xs (caught_up moments track) (sample_of row now) few h);
}

-- a line tells of the task
told_more : (moments : List ℕ) (now : ℕ) (row : TaskRow) (xs : List Sample) (was : Option TaskRow) (old : Option Track) → length xs ≤ 2 ^ 62 → FollowsAt moments xs was old
    → FollowsAt (moments ++ now ∷ []) (xs ++ sample_of row now ∷ []) (Some row) (told_track moments now (Some row) old)
told_more moments now row xs was None few h =
    subst (λ (ys : List Sample). Follows (moments ++ now ∷ []) (ys ++ sample_of row now ∷ []) (Some row) (told_again moments now row (begun moments row))) (sym h.1)
    (told_is moments now row (begun moments row) [] (omega arith) (subst (IsCourse []) (sym (all_taken no_items row moments (length moments) (omega arith))) none_is))
told_more moments now row xs was (Some track) few h = told_is moments now row track xs few h.course

same_some : {A : Type 0} (a b : A) → Some a ≡ Some b → a ≡ b
same_some a b e = cc

none_some : {A : Type 0} (a : A) → None ≡ Some a → ⊥
none_some a e = absurd (cc)

-- a line doesn't tell of it
passed_by : (moments : List ℕ) (now : ℕ) (row : TaskRow) (xs : List Sample) (old : Option Track) → length xs ≤ 2 ^ 62 → FollowsAt moments xs (Some row) old
    → FollowsAt (moments ++ now ∷ []) (xs ++ sample_of row now ∷ []) (Some row) old
passed_by moments now row xs None few h = absurd (none_some row (sym h.0))
passed_by moments now row xs (Some track) few h =
    let is : track.row ≡ row = sym (same_some row track.row h.row) in
    record {
      within = let long = length-append moments (now ∷ []) in omega (arith, long, h.within);
      row = h.row;
      course = subst (λ (r : TaskRow). IsCourse (xs ++ sample_of r now ∷ []) (caught_up (moments ++ now ∷ []) track)) is
          (subst (IsCourse (xs ++ sample_of track.row now ∷ [])) (sym (caught_next moments now track h.within))
          (with_item_is xs (caught_up moments track) (sample_of track.row now) few h.course));
    }

still_none : (moments : List ℕ) (now : ℕ) (xs : List Sample) (old : Option Track) → FollowsAt moments xs None old → FollowsAt (moments ++ now ∷ []) [] None old
still_none moments now xs None h = (refl, refl)
still_none moments now xs (Some track) h = absurd (none_some track.row h.row)

abbrev row_of : Option Task → Option TaskRow
row_of o = option_map (λ (t : Task). t.row) o

abbrev more : ℕ → Option Task → List Sample → List Sample
more now o xs = cond (is_some o) (xs ++ option_map_or (λ (t : Task). sample_of t.row now ∷ []) o []) []

never : (b : Bool) → (b && false) ≡ false
never true = refl
never false = refl

-- the track of a task after one line more, where those that left had theirs taken away
one_more : (moments : List ℕ) (now : ℕ) (xs : List Sample) (told left : Bool) (o p : Option Task) (old : Option Track) → length xs ≤ 2 ^ 62 → left ≡ (is_some p && not (is_some o))
    → (told ≡ false → is_some o ≡ true → o ≡ p) → FollowsAt moments xs (row_of p) old
    → FollowsAt (moments ++ now ∷ []) (more now o xs) (row_of o) (cond told (told_track moments now (row_of o) (cond left None old)) (cond left None old))
one_more moments now xs true left (Some t) p old few gone same h =
    subst (λ (b : Bool). FollowsAt (moments ++ now ∷ []) (xs ++ sample_of t.row now ∷ []) (Some t.row) (told_track moments now (Some t.row) (cond b None old))) (sym (gone ∙ never (is_some p)))
    (told_more moments now t.row xs (row_of p) old few h)
one_more moments now xs false left (Some t) p old few gone same h =
    subst (λ (b : Bool). FollowsAt (moments ++ now ∷ []) (xs ++ sample_of t.row now ∷ []) (Some t.row) (cond b None old)) (sym (gone ∙ never (is_some p)))
    (passed_by moments now t.row xs old few (subst (λ (q : Option Task). FollowsAt moments xs (row_of q) old) (sym (same refl refl)) h))
one_more moments now xs true left None p old few gone same h = (refl, refl)
one_more moments now xs false left None (Some u) old few gone same h = subst (λ (b : Bool). FollowsAt (moments ++ now ∷ []) [] None (cond b None old)) (sym gone) (refl, refl)
one_more moments now xs false left None None old few gone same h =
    subst (λ (b : Bool). FollowsAt (moments ++ now ∷ []) [] None (cond b None old)) (sym gone) (still_none moments now xs old h)

-- ---- all tracks

and_no : (a b : Bool) → b ≡ true → (a && not b) ≡ not b
and_no true b e = refl
and_no false b e = ap not (sym e)

-- a task has left that was there, and isn't now
left_among : (times : List TaskTimes) (h : ℕ → Bool) (id : ℕ) (ts : List Task)
    → is_among (map left_id (map (left_as times) (filter (λ (t : Task). not (h t.info.id)) ts))) id ≡ (is_some (task_with id ts) && not (h id))
left_among times h id [] = refl
left_among times h id (t ∷ ts) = by (h t.info.id) refl (nat_eq id t.info.id) refl (left_among times h id ts)
  where
    others : List Task
    others = filter (λ (x : Task). not (h x.info.id)) ts

    by : (b : Bool) → h t.info.id ≡ b → (c : Bool) → nat_eq id t.info.id ≡ c → is_among (map left_id (map (left_as times) others)) id ≡ (is_some (task_with id ts) && not (h id))
        → is_among (map left_id (map (left_as times) (cond (not b) (t ∷ others) others))) id ≡ (is_some (cond c (Some t) (task_with id ts)) && not (h id))
    by true e true f rest = rest ∙ and_no (is_some (task_with id ts)) (h id) (ap h (eqb-true id t.info.id f) ∙ e)
    by true e false f rest = rest
    by false e true f rest = let away : h id ≡ false = ap h (eqb-true id t.info.id f) ∙ e in rw f (ap not (sym away))
    by false e false f rest = rw f rest

pub tracks_more : (shown : List TablesView) (tables : TablesView) (change : ChangeView) (old mid new : Tracks) → length shown ≤ 2 ^ 62 → Leads (last_of shown) tables change → AreTracks shown old
    → ((id : ℕ) → get nat_eq mid.tasks id ≡ cond (is_among (map left_id change.left) id) None (get nat_eq old.tasks id))
    → ((id : ℕ) → is_among mid.lasting.keys id ≡ cond (is_among (map left_id change.left) id) false (is_among old.lasting.keys id))
    → ((id : ℕ) → get nat_eq new.tasks id
    ≡ cond (is_among change.told id) (told_track (moments_of shown) tables.now (row_in tables id) (get nat_eq mid.tasks id)) (get nat_eq mid.tasks id))
    → ((id : ℕ) → is_among new.lasting.keys id ≡ cond (is_among change.told id) (lasts_in tables id) (is_among mid.lasting.keys id)) → AreTracks (shown ++ tables ∷ []) new
tracks_more shown tables change old mid new few l h mid_tasks mid_lasting new_tasks new_lasting = record {
  tasks = λ id.
      subst (λ (ms : List ℕ). FollowsAt ms (samples_of id (shown ++ tables ∷ [])) (row_in (last_of (shown ++ tables ∷ [])) id) (get nat_eq new.tasks id)) (sym moments)
      (subst (λ (xs : List Sample). FollowsAt (moments_of shown ++ tables.now ∷ []) xs (row_in (last_of (shown ++ tables ∷ [])) id) (get nat_eq new.tasks id)) (sym (samples_snoc id shown tables))
      (subst (λ (t : TablesView). FollowsAt (moments_of shown ++ tables.now ∷ []) (samples_more id tables (samples_of id shown)) (row_in t id) (get nat_eq new.tasks id)) (sym end)
      (subst (FollowsAt (moments_of shown ++ tables.now ∷ []) (samples_more id tables (samples_of id shown)) (row_in tables id)) (sym (is id))
      (one_more (moments_of shown) tables.now (samples_of id shown) (is_among change.told id) (is_among (map left_id change.left) id) (task_with id tables.tasks)
      (task_with id (last_of shown).tasks) (get nat_eq old.tasks id) (short id) (left_is id) (λ out there. (l.is.same id out there).task) (h.tasks id)))));
  lasting = λ id.
      new_lasting id
      ∙ ap (cond (is_among change.told id) (lasts_in tables id)) (mid_lasting id ∙ ap (cond (is_among (map left_id change.left) id) false) (h.lasting id))
      ∙ after_line (λ (o : Option Task). option_map_or lasts (option_map (λ (t : Task). t.row) o) false) (last_of shown) tables change l id
      ∙ ap (λ (t : TablesView). lasts_in t id) (sym end);
}
  where
    end : last_of (shown ++ tables ∷ []) ≡ tables
    end = ap (λ (o : Option TablesView). unwrap_or o empty_tables) (last_push None shown tables)

    moments : moments_of (shown ++ tables ∷ []) ≡ moments_of shown ++ tables.now ∷ []
    moments = map-append (λ (t : TablesView). t.now) shown (tables ∷ [])

    short : (id : ℕ) → length (samples_of id shown) ≤ 2 ^ 62
    short id = omega (arith, few, few_samples id shown)

    left_is : (id : ℕ) → is_among (map left_id change.left) id ≡ (is_some (task_with id (last_of shown).tasks) && not (is_some (task_with id tables.tasks)))
    left_is id =
        ap (λ xs. is_among (map left_id xs) id) l.is.left
        ∙ left_among l.times_before (λ (n : ℕ). is_some (task_with n tables.tasks)) id (last_of shown).tasks

    is : (id : ℕ) → get nat_eq new.tasks id
        ≡ cond (is_among change.told id) (told_track (moments_of shown) tables.now (row_in tables id) (cond (is_among (map left_id change.left) id) None (get nat_eq old.tasks id)))
        (cond (is_among (map left_id change.left) id) None (get nat_eq old.tasks id))
    is id =
        new_tasks id
        ∙ ap (λ (k : Option Track). cond (is_among change.told id) (told_track (moments_of shown) tables.now (row_in tables id) k) k) (mid_tasks id)

-- before the first line
pub tracks_none : (tracks : Tracks) → tracks.tasks.entries ≡ [] → tracks.lasting.keys ≡ [] → AreTracks [] tracks
tracks_none tracks none quiet = record {
  tasks = λ id. subst (λ (es : List (ℕ × Track)). FollowsAt [] [] None (lookup (nat_eq id) es)) (sym none) (refl, refl);
  lasting = λ id. ap (λ (ks : List ℕ). is_among ks id) quiet;
}

-- ---- those that a line tells of

item_of : (P : ℕ → Type 0) (xs : List ℕ) (i x : ℕ) → i < length xs → x ≡ get_or xs i x → AllByRecursion P xs → P x
item_of P [] i x lt is all = absurd (omega (arith, lt))
item_of P (y ∷ ys) zero x lt is all = subst P (sym is) all.0
item_of P (y ∷ ys) (suc i) x lt is all = item_of P ys i x (omega (arith, lt)) is all.1

-- an id that stands once isn't among those before it
pub not_again : (xs : List ℕ) (i x : ℕ) → IsDistinct nat_eq xs → i < length xs → x ≡ get_or xs i x → is_among (take i xs) x ≡ false
unfolding IsDistinct
not_again [] i x once lt is = absurd (omega (arith, lt))
not_again (y ∷ ys) zero x once lt is = refl
not_again (y ∷ ys) (suc i) x once lt is =
    let apart : nat_eq x y ≡ false = flipped y x (item_of (λ (z : ℕ). nat_eq y z ≡ false) ys i x (omega (arith, lt)) is once.0) in
    rw apart (not_again ys i x once.1 (omega (arith, lt)) is)

-- what is made once of each so far, and of one more
pub made_once : {V : Type 0} (f : ℕ → V → V) (old cur : ℕ → V) (ids : List ℕ) (id n : ℕ) → is_among ids id ≡ false → ((k : ℕ) → cur k ≡ cond (is_among ids k) (f k (old k)) (old k))
    → cond (nat_eq id n) (f id (cur id)) (cur n) ≡ cond (is_among (ids ++ id ∷ []) n) (f n (old n)) (old n)
made_once {V} f old cur ids id n out so_far =
    ap (λ (v : V). cond (nat_eq id n) (f id v) (cur n)) (so_far id ∙ ap (λ (b : Bool). cond b (f id (old id)) (old id)) out)
    ∙ ap (cond (nat_eq id n) (f id (old id))) (so_far n)
    ∙ set_next (λ (k : ℕ). f k (old k)) (old n) ids id n

-- ---- the map of tracks

-- an entry has its value at its place
value_at : (es : List (ℕ × Track)) (i k : ℕ) (v : Track) → slice_get es i ≡ Some (k, v) → slice_get (values_of es) i ≡ Some v
value_at [] zero k v e = absurd (cc)
value_at [] (suc i) k v e = absurd (cc)
value_at (x ∷ es) zero k v e = let is : x ≡ (k, v) = cc in ap (λ (y : ℕ × Track). Some y.1) is
value_at (x ∷ es) (suc i) k v e = value_at es i k v e

entry_at : (id : ℕ) (es : List (ℕ × Track)) (i : ℕ) → i < length (keys_of es) → nat_eq id (get_or (keys_of es) i 0) ≡ true → (v : Track) × (slice_get es i ≡ Some (id, v))
entry_at id [] zero h t = absurd (omega (arith, h))
entry_at id [] (suc i) h t = absurd (omega (arith, h))
entry_at id (x ∷ es) zero h t = (x.1, ap (λ k. Some (k, x.1)) (sym (eqb-true id x.0 t)))
entry_at id (x ∷ es) (suc i) h t = entry_at id es i (omega (arith, h)) t

-- where a look-up found a track
pub found_at : (id : ℕ) (es : List (ℕ × Track)) (o : Option ℕ) → o ≡ position (nat_eq id) (keys_of es)
    → IfSome o (λ i. slice_get (values_of es) i ≡ lookup (nat_eq id) es) → IfSome o (λ i. StandsAt es i id)
found_at id es None is value = tt
found_at id es (Some i) is value =
    let p = position-Some (nat_eq id) (keys_of es) i 0 (sym is) in
    let e = entry_at id es i p.0 p.1 in
    (e.0, e.1, sym value ∙ value_at es i id e.0 e.1)

-- the value that stands there is the track
pub same_track : (es : List (ℕ × Track)) (i id : ℕ) (s : StandsAt es i id) (v : Track) → Some v ≡ slice_get (values_of es) i → lookup (nat_eq id) es ≡ Some v
same_track es i id s v is = s.2 ∙ sym (value_at es i id s.0 s.1) ∙ sym is

-- what follows where there is an answer
pub so_on_ok : {A E P Q : Type 0} (r : Result A E) → (P → Q) → OnOk r P → OnOk r Q
so_on_ok (Ok x) f h = f h
so_on_ok (Err e) f h = tt
