-- What was seen of the lines of bytes.
use Rattle.std.proofs.Common.{◌≡◌, ℕ, zero, suc, ◌-◌, ◌≤◌, nat_le, nat_lt, ◌||◌, List, [], ◌∷◌, ◌++◌, length, map, take, Bool, true, false, cond, Option, Some, None, Result, Ok, Err, OnOk, refl, ap, ap₂, sym, ◌∙◌, append_assoc, append-nil, arith, subst}
use Rattle.std.specs.List.{fold}
use Rattle.std.specs.Option.{option_map}
use Rattle.std.proofs.lemmas.List.Sums.{fold-append}
use Rattle.tk_client.specs.declared.fault.Fault.{Fault}
use Rattle.tk_client.specs.Changes.{Timed, untimed}
use Rattle.tk_client.specs.Feeding.{ClientView}
use Rattle.tk_client.specs.Meaning.{Outcome, Start, cut, empty_start, goes, greatest_line, stops}
use Rattle.tk_client.specs.Warnings.{LintsView}
use Rattle.tk_client.proofs.Pieces.{stops-append}
use Rattle.tk_fault.specs.declared.fault.AppFault.{AppFault}
use Rattle.tk_fault.specs.declared.fault.AppFault.TheVariants as faults
use Rattle.tk_odd.specs.declared.held.Held.{Held}
use Rattle.tk_odd.specs.declared.limits.Limits.{Limits}
use Rattle.tk_series.specs.Limited.{LimitedView}
use Rattle.tk_sites.specs.declared.sums.Sums.{Sums}
use Rattle.tk_frame.specs.Findings.{OddView}
use Rattle.tk_frame.specs.Places.{PlaceRow, RecentView, recent_since}
use Rattle.tk_frame.specs.declared.recent.Earlier.{Earlier}
use Rattle.tk_odd.specs.declared.finding.Found.{Found}
use Rattle.tk_odd.specs.Diagnosis.{Standing, standing_of}
use Rattle.tk_odd.specs.Findings.{Placed, Told, findings_of, placed, told, told_of, with_whom}
use Rattle.tk_odd.specs.Victims.{Pairs}
use Rattle.tk_odd.specs.Inner.{Follows}
use Rattle.tk_sites.specs.Inner.{Follows as FollowsSites}
use Rattle.tk_reading.specs.Fronts.{IsFront, Rise, last_lines, lines_in}
use Rattle.tk_reading.specs.Outcomes.{outcome_of}
use Rattle.tk_reading.specs.Reads.{StopsAfter, TakesMore}
use Rattle.tk_reading.specs.Shown.{last_timed, shown_of, tables_of, timed_from, timed_of}
use Rattle.tk_reading.specs.Taken.{HasTaken}
use Rattle.tk_reading.proofs.FrontLemmas.{front_few, last_more}
use Rattle.tk_reading.proofs.ShownLemmas.{last_taken, shown-append, shown_count, timed-append, timed_count}
use Rattle.tk_stream.specs.Tables.{TablesView}
use Rattle.tk_watch.specs.Course.{Keeps, Sees, first_or, span_to}
use Rattle.tk_watch.specs.Odd.{first_moment, odd_after, places_after, seen_in, times_in}
use Rattle.tk_watch.specs.Waits.{waits_after}
use Rattle.tk_watch.specs.Watching.{TakesTo}
use Rattle.tk_watch.specs.declared.seen.Course.{Course}
use Rattle.tk_watch.specs.Lasts.{last_of}
use Rattle.tk_watch.specs.Recent.{Noted, again_at, earlier_of, has_fallen, is_due, last_old, noted_of, nothing, recent_after, still, with_line}
use Rattle.tk_watch.specs.declared.notes.Notes.{Notes}
use Rattle.tk_watch.specs.declared.seen.Seen.{Seen}

-- ---- the lines that are applied

-- as many of two lists as the first has
take_front : {A : Type 0} (n : ℕ) (xs ys : List A) → length xs ≡ n → take n (xs ++ ys) ≡ xs
take_front zero [] [] h = refl
take_front zero [] (y ∷ ys) h = refl
take_front zero (x ∷ xs) ys h = absurd (omega (arith, h))
take_front (suc n) [] ys h = absurd (omega (arith, h))
take_front (suc n) (x ∷ xs) ys h = ap (λ zs. x ∷ zs) (take_front n xs ys (omega (arith, h)))

-- bytes without a fault, and more of which no line is applied
seen_front : (good rest : List ℕ) (s : Start) (n : ℕ) → outcome_of good ≡ goes s n → lines_in (outcome_of (good ++ rest)) ≡ n → seen_in (good ++ rest) ≡ shown_of good
seen_front good rest s n come lines =
    let now : ClientView = record { start = s; has_failed = false; max_line = greatest_line } in
    let taken : HasTaken good n now = record { took = record { came = come; sound = refl }; limit = refl } in
    ap₂ (λ (k : ℕ) (xs : List TablesView). take k xs) lines (shown-append greatest_line empty_start s good rest n come)
    ∙ take_front n (shown_of good) (tables_of (timed_from s (cut rest).0)) (shown_count good n now taken)

-- bytes without a fault
seen_whole : (bytes : List ℕ) (s : Start) (n : ℕ) → outcome_of bytes ≡ goes s n → seen_in bytes ≡ shown_of bytes
seen_whole bytes s n come =
    ap seen_in (sym (append-nil bytes)) ∙ seen_front bytes [] s n come (ap (λ xs. lines_in (outcome_of xs)) (append-nil bytes) ∙ ap lines_in come)

-- bytes that are taken
pub seen_all : (bytes : List ℕ) (lines : ℕ) (now : ClientView) → HasTaken bytes lines now → seen_in bytes ≡ shown_of bytes
seen_all bytes lines now h = seen_whole bytes now.start lines h.took.came

-- at a fault those before it
seen_to : (saw : List Timed → Seen → Type 0) (front piece : List ℕ) (n : ℕ) (fault : Fault) (now : ClientView) (seen : Seen) (h : StopsAfter saw front piece n fault now seen)
    → seen_in (front ++ piece) ≡ shown_of (front ++ h.part)
seen_to saw front piece n fault now seen h =
    let whole : front ++ piece ≡ (front ++ h.part) ++ h.rest = ap (λ xs. front ++ xs) h.whole ∙ sym (append_assoc front h.part h.rest) in
    ap seen_in whole ∙ seen_front (front ++ h.part) h.rest h.start n h.come (ap (λ xs. lines_in (outcome_of xs)) (sym whole) ∙ ap lines_in h.stop)

-- ---- the histograms after them

-- those after bytes without a fault, and more of which no line is applied
times_front : (good rest : List ℕ) (s : Start) (n : ℕ) → outcome_of good ≡ goes s n → lines_in (outcome_of (good ++ rest)) ≡ n → times_in (good ++ rest) ≡ s.times
times_front good rest s n come lines =
    let now : ClientView = record { start = s; has_failed = false; max_line = greatest_line } in
    let taken : HasTaken good n now = record { took = record { came = come; sound = refl }; limit = refl } in
    ap₂ (λ (k : ℕ) (xs : List Timed). (last_timed untimed (take k xs)).1) lines (timed-append greatest_line empty_start s good rest n come)
    ∙ ap (λ (xs : List Timed). (last_timed untimed xs).1) (take_front n (timed_of good) (timed_from s (cut rest).0) (timed_count good n now taken))
    ∙ ap (λ (t : Timed). t.1) (last_taken good n now taken)

-- those after bytes that are taken
pub times_all : (bytes : List ℕ) (lines : ℕ) (now : ClientView) → HasTaken bytes lines now → times_in bytes ≡ now.start.times
times_all bytes lines now h =
    ap times_in (sym (append-nil bytes))
    ∙ times_front bytes [] now.start lines h.took.came (ap (λ xs. lines_in (outcome_of xs)) (append-nil bytes) ∙ ap lines_in h.took.came)

-- at a fault those before it
times_to : (saw : List Timed → Seen → Type 0) (front piece : List ℕ) (n : ℕ) (fault : Fault) (now : ClientView) (seen : Seen) (h : StopsAfter saw front piece n fault now seen)
    → times_in (front ++ piece) ≡ now.start.times
times_to saw front piece n fault now seen h =
    let whole : front ++ piece ≡ (front ++ h.part) ++ h.rest = ap (λ xs. front ++ xs) h.whole ∙ sym (append_assoc front h.part h.rest) in
    ap times_in whole ∙ times_front (front ++ h.part) h.rest h.start n h.come (ap (λ xs. lines_in (outcome_of xs)) (sym whole) ∙ ap lines_in h.stop)
    ∙ sym h.times

-- ---- fronts

-- bytes, and a front of them that has all their lines
seen_last : (last bytes : List ℕ) (front : IsFront last bytes) (t : Start) (n : ℕ) → outcome_of bytes ≡ goes t n → n ≤ lines_in (outcome_of last) → seen_in last ≡ seen_in bytes
seen_last last bytes front t n come few = by (outcome_of last) refl
  where
    whole : outcome_of (last ++ front.rest) ≡ goes t n
    whole = subst (λ xs. outcome_of xs ≡ goes t n) front.whole come

    by : (o : Outcome) → outcome_of last ≡ o → seen_in last ≡ seen_in bytes
    by (goes s m) e =
        let counted : lines_in (outcome_of last) ≡ m = ap lines_in e in
        let below = front_few last front.rest t n whole in
        let same : n ≡ m = omega arith in
        seen_whole last s m e ∙ sym (ap seen_in front.whole ∙ seen_front last front.rest s m e (ap lines_in whole ∙ same))
    by (stops tables m fault used) e = absurd (no (sym (stops-append greatest_line empty_start last front.rest tables m used fault e) ∙ whole))
      where
        no : stops tables m fault used ≡ goes t n → ⊥
        no h = cc

last_front : (init : List (List ℕ)) (last bytes : List ℕ) → Rise (init ++ last ∷ []) bytes → IsFront last bytes
last_front [] last bytes h = h.0
last_front (f ∷ fs) last bytes h = last_front fs last bytes h.1

-- the last of rising fronts, where it has all lines
pub seen_same : (fronts init : List (List ℕ)) (last bytes : List ℕ) (t : Start) (n most : ℕ) → Rise fronts bytes → fronts ≡ init ++ last ∷ [] → last_lines fronts ≡ Some most → n ≤ most
    → outcome_of bytes ≡ goes t n → seen_in last ≡ seen_in bytes
seen_same fronts init last bytes t n most rise split is few come =
    let counted : lines_in (outcome_of last) ≡ most = same (lines_in (outcome_of last)) most (sym (last_more init last) ∙ ap last_lines (sym split) ∙ is) in
    seen_last last bytes (last_front init last bytes (subst (λ fs. Rise fs bytes) split rise)) t n come (omega (arith, few, counted))
  where
    same : (a b : ℕ) → Some a ≡ Some b → a ≡ b
    same a b h = cc

-- ---- what is kept of them

first_more : (shown : List TablesView) (tables : TablesView) → first_or (first_moment shown) tables.now ≡ first_moment (shown ++ tables ∷ [])
first_more [] tables = refl
first_more (t ∷ ts) tables = refl

-- a line more was noted
noted_more : (lints : LintsView) (shown : List TablesView) (tables : TablesView) → noted_of lints (shown ++ tables ∷ []) ≡ with_line lints (noted_of lints shown) tables
noted_more lints shown tables = fold-append (with_line lints) nothing shown (tables ∷ [])

came_from : (lints : LintsView) (n : Noted) (shown : List TablesView) → (fold (with_line lints) n shown).came ≡ n.came ++ shown
came_from lints n [] = sym (append-nil n.came)
came_from lints n (t ∷ ts) = came_from lints (with_line lints n t) ts ∙ append_assoc n.came (t ∷ []) ts

-- the lines that came are those
pub came_is : (lints : LintsView) (shown : List TablesView) → (noted_of lints shown).came ≡ shown
came_is lints shown = came_from lints nothing shown

-- what places had come to
abbrev pub earlier_with : ℕ → LimitedView Sums → List (List ℕ × Held) → Earlier
earlier_with moment sites held = record { moment = moment; sites = sites; held = held }

pub earlier_same : (m n : ℕ) (s t : LimitedView Sums) (g h : List (List ℕ × Held)) → m ≡ n → s ≡ t → g ≡ h → earlier_with m s g ≡ earlier_with n t h
earlier_same m n s t g h a b c =
    ap (λ (x : ℕ). earlier_with x s g) a ∙ ap (λ (x : LimitedView Sums). earlier_with n x g) b ∙ ap (earlier_with n t) c

-- whether it is to be noted
pub due_is : (noted : Noted) (n : Notes) (t : TablesView) (now : ℕ) (b : Bool) → Keeps noted n → now ≡ t.now → b ≡ is_due n.last now → is_due noted.last t.now ≡ b
due_is noted n t now b k same is = sym (is ∙ ap₂ (λ (l : Option ℕ) (m : ℕ). is_due l m) k.last same)

-- a moment that isn't noted isn't before the last note
not_fallen : (last : Option ℕ) (now : ℕ) → is_due last now ≡ false → has_fallen last now ≡ false
not_fallen None now e = refl
not_fallen (Some last) now e = first (nat_lt now last) (nat_le 100000000 (now - last)) e
  where
    first : (a b : Bool) → (a || b) ≡ false → a ≡ false
    first true b h = h
    first false b h = refl

-- a line after which nothing is noted
pub notes_none : (lints : LintsView) (noted : Noted) (t : TablesView) (n : Notes) → is_due noted.last t.now ≡ false → Keeps noted n → Keeps (with_line lints noted t) n
notes_none lints noted t n none k = record {
  last = k.last ∙ ap (λ (b : Bool). cond b (Some t.now) noted.last) (sym none);
  again = k.again ∙ ap (λ (b : Bool). cond b (Some t.now) noted.again) (sym (not_fallen noted.last t.now none));
  notes = k.notes ∙ ap (λ (b : Bool). last_of 64 (cond b (still noted.last t.now noted.notes ++ earlier_of lints (noted.came ++ t ∷ []) t ∷ []) noted.notes)) (sym none);
}

-- a line after which it is noted what places have come to
pub notes_one : (lints : LintsView) (noted : Noted) (t : TablesView) (new : Notes) (e : Earlier) (notes : List Earlier) → is_due noted.last t.now ≡ true
    → e ≡ earlier_of lints (noted.came ++ t ∷ []) t → new.last ≡ Some t.now → new.again ≡ again_at noted.last t.now noted.again → notes ≡ still noted.last t.now noted.notes → new.list.items ≡ last_of 64 (notes ++ e ∷ [])
    → Keeps (with_line lints noted t) new
notes_one lints noted t new e notes due is last again stay pushed = record {
  last = last ∙ ap (λ (b : Bool). cond b (Some t.now) noted.last) (sym due);
  again = again;
  notes = pushed
      ∙ ap₂ (λ (xs : List Earlier) (x : Earlier). last_of 64 (xs ++ x ∷ [])) stay is
      ∙ ap (λ (b : Bool). last_of 64 (cond b (still noted.last t.now noted.notes ++ earlier_of lints (noted.came ++ t ∷ []) t ∷ []) noted.notes)) (sym due);
}

-- a line more was seen
pub sees_more : {E : Type 0} (lints : LintsView) (shown : List TablesView) (tables : TablesView) (old new : Seen) (result : Result (Unit {0}) E) → Sees lints shown old
    → Follows (shown ++ tables ∷ []) new.diagnosis → new.diagnosis.limits ≡ old.diagnosis.limits → new.first ≡ first_or old.first tables.now
    → FollowsSites (shown ++ tables ∷ []) new.sites
    → new.waits.items ≡ waits_after (shown ++ tables ∷ [])
    → OnOk result (Keeps (with_line lints (noted_of lints shown) tables) new.notes)
    → OnOk result (Sees lints (shown ++ tables ∷ []) new)
sees_more lints shown tables old new (Ok done) s follows limits first sites waits notes = record {
  follows = follows;
  limits = limits ∙ s.limits;
  first = first ∙ ap (λ (o : Option ℕ). first_or o tables.now) s.first ∙ first_more shown tables;
  sites = sites;
  notes = subst (λ (n : Noted). Keeps n new.notes) (sym (noted_more lints shown tables)) notes;
  waits = waits;
}
sees_more lints shown tables old new (Err e) s follows limits first sites waits notes = tt

-- the findings of those that are told with who waited for them
found_of_told : (xs : List Found) → map placed xs ≡ map (λ (t : Told). t.0) (map told xs)
found_of_told [] = refl
found_of_told (x ∷ xs) = ap (λ (ys : List Placed). placed x ∷ ys) (found_of_told xs)

told_are : (pairs : Pairs) (xs : List Placed) → map (λ (t : Told). t.0) (map (with_whom pairs) xs) ≡ xs
told_are pairs [] = refl
told_are pairs (x ∷ xs) = ap (λ (ys : List Placed). x ∷ ys) (told_are pairs xs)

pub found_is : (limits : Limits) (d : Standing) (tables : TablesView) (xs : List Found) → map told xs ≡ told_of limits d tables → map placed xs ≡ findings_of limits d tables
found_is limits d tables xs same = found_of_told xs ∙ ap (map (λ (t : Told). t.0)) same ∙ told_are d.pairs (findings_of limits d tables)

-- findings, places, and the time that lines span
abbrev pub odd_with : List Placed → List Told → List PlaceRow → Option RecentView → List ℕ → Option ℕ → Option ℕ → OddView
odd_with findings whom places recent waits again span =
    record { findings = findings; told = whom; places = places; recent = recent; waits = waits; again = again; span = span; long = 100000000 }

odd_same : (f g : List Placed) (k l : List Told) (p q : List PlaceRow) (r u : Option RecentView) (v w : List ℕ) (m n : Option ℕ) (s t : Option ℕ) → f ≡ g → k ≡ l → p ≡ q → r ≡ u → v ≡ w → m ≡ n → s ≡ t
    → odd_with f k p r v m s ≡ odd_with g l q u w n t
odd_same f g k l p q r u v w m n s t a o b c d h e =
    ap (λ (x : List Placed). odd_with x k p r v m s) a
    ∙ ap (λ (x : List Told). odd_with g x p r v m s) o
    ∙ ap (λ (x : List PlaceRow). odd_with g l x r v m s) b
    ∙ ap (λ (x : Option RecentView). odd_with g l q x v m s) c
    ∙ ap (λ (x : List ℕ). odd_with g l q u x m s) d
    ∙ ap (λ (x : Option ℕ). odd_with g l q u w x s) h
    ∙ ap (odd_with g l q u w n) e

-- what places came to in the last while
pub recent_is : (lints : LintsView) (shown : List TablesView) (seen : Seen) (now : ℕ) (ps qs : List PlaceRow) → Sees lints shown seen → ps ≡ qs
    → option_map (λ e. recent_since e now ps) (last_old now seen.notes.list.items) ≡ recent_after lints shown now qs
recent_is lints shown seen now ps qs s same =
    ap₂ (λ (notes : List Earlier) (xs : List PlaceRow). option_map (λ e. recent_since e now xs) (last_old now notes)) s.notes.notes same

-- what is odd about tables to which its lines came, and their places
pub odd_is : (lints : LintsView) (shown : List TablesView) (seen : Seen) (tables : TablesView) (found : List Found) (places : List PlaceRow) (recent : Option RecentView) (waits : List ℕ) (again : Option ℕ) (span : Option ℕ)
    → Sees lints shown seen
    → map told found ≡ told_of seen.diagnosis.limits (standing_of seen.diagnosis.limits shown) tables → places ≡ places_after lints shown tables
    → recent ≡ recent_after lints shown tables.now (places_after lints shown tables) → waits ≡ seen.waits.items → again ≡ seen.notes.again → span ≡ span_to tables.now seen.first
    → odd_with (map placed found) (map told found) places recent waits again span ≡ odd_after lints shown tables
odd_is lints shown seen tables found places recent waits again span s is placed_there lately waited started spans =
    let limits = seen.diagnosis.limits in
    odd_same (map placed found) _ (map told found) _ places _ recent _ waits _ again _ span _
    (found_is limits (standing_of limits shown) tables found is ∙ ap (λ (l : Limits). findings_of l (standing_of l shown) tables) s.limits)
    (is ∙ ap (λ (l : Limits). told_of l (standing_of l shown) tables) s.limits) placed_there lately (waited ∙ s.waits) (started ∙ s.notes.again) (spans ∙ ap (span_to tables.now) s.first)

-- it has seen the tables of what was shown after each line
abbrev pub sees_in : LintsView → List Timed → Seen → Type 0
sees_in lints lines seen = Sees lints (tables_of lines) seen

-- a piece was taken, or its fault is one of all bytes, before which the client's tables stood
takes_to : (lints : LintsView) (front piece : List ℕ) (now : Course) (result : Result ℕ AppFault)
    → TakesMore (sees_in lints) front piece result now.client now.seen → TakesTo lints (front ++ piece) result now
takes_to lints front piece now (Ok lines) h = (h.0, subst (λ (xs : List TablesView). Sees lints xs now.seen) (sym (seen_all (front ++ piece) lines now.client h.0)) h.1)
takes_to lints front piece now (Err faults.Memory) h = tt
takes_to lints front piece now (Err faults.Read) h = absurd h
takes_to lints front piece now (Err faults.Write) h = absurd h
takes_to lints front piece now (Err (faults.Script line name)) h = absurd h
takes_to lints front piece now (Err (faults.Stream lines fault)) h = (
  h.used,
  h.stop ∙ ap (λ t. stops t lines fault h.used) (sym h.tables),
  subst (λ (xs : List TablesView). Sees lints xs now.seen) (sym (seen_to (sees_in lints) front piece lines fault now.client now.seen h)) h.seen,
  times_to (sees_in lints) front piece lines fault now.client now.seen h,
)

-- the same, by what a piece is fed to
pub feeds : (lints : LintsView) (front piece : List ℕ) (lines : ℕ) (old new : Course) (result : Result ℕ AppFault) → HasTaken front lines old.client → Sees lints (seen_in front) old.seen
    → (Sees old.seen.diagnosis.limits.lints (shown_of front) old.seen → TakesMore (sees_in old.seen.diagnosis.limits.lints) front piece result new.client new.seen)
    → TakesTo lints (front ++ piece) result new
feeds lints front piece lines old new result taken s feed =
    let own = old.seen.diagnosis.limits.lints in
    let same : own ≡ lints = ap (λ (l : Limits). l.lints) s.limits in
    let before : Sees own (shown_of front) old.seen =
    subst (λ (k : LintsView). Sees k (shown_of front) old.seen) (sym same)
    (subst (λ (xs : List TablesView). Sees lints xs old.seen) (seen_all front lines old.client taken) s) in
    takes_to lints front piece new result (subst (λ (k : LintsView). TakesMore (sees_in k) front piece result new.client new.seen) same (feed before))
