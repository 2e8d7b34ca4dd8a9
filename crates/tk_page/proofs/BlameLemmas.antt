-- What places are charged with, one line more.
use Rattle.std.proofs.Common.{◌≡◌, ℕ, zero, suc, ◌+◌, ◌^◌, ◌≤◌, ◌<◌, ◌⊎◌, inl, inr, List, [], ◌∷◌, ◌++◌, length, get_or, take, refl, ap, sym, ◌∙◌, append-nil, arith, subst}
use Rattle.std.specs.Prelude.{flat_map, fold}
use Rattle.std.specs.Option.{option_map_or}
use Rattle.std.proofs.lemmas.Bool.{cases_lt}
use Rattle.std.proofs.lemmas.Grind.{flat_map-append}
use Rattle.std.proofs.lemmas.List.{get_or_past}
use Rattle.std.proofs.lemmas.Option.{slice_get_past}
use Rattle.tk_odd.specs.Diagnosis.{Standing, after_line, nothing, standing_of}
use Rattle.tk_odd.specs.Inner.{Follows}
use Rattle.tk_odd.specs.declared.diagnosis.Diagnosis.{Diagnosis}
use Rattle.tk_odd.specs.declared.held.Held.{Held}
use Rattle.tk_odd.specs.declared.limits.Limits.{Limits}
use Rattle.tk_paper.proofs.CourseLemmas.{with_item_is}
use Rattle.tk_paper.specs.Courses.{CourseView, IsCourse, with_item}
use Rattle.tk_stream.specs.Tables.{TablesView}
use Rattle.tk_page.specs.Charges.{AreBlamed, Blames, Places, TellWhom, charge_at, charged_at, charges_from, charges_of, course_of, places_of}
use Rattle.tk_page.specs.declared.blame.Blame.{Blame}
use Rattle.tk_page.specs.declared.blame.Charge.{Charge}
use Rattle.tk_page.specs.declared.blamed.Blamed.{Blamed}
use Rattle.tk_page.proofs.LoopLemmas.{get_at, take_next}

-- ---- lists

-- another default is the same within a list
any_default : {A : Type 0} (xs : List A) (i : ℕ) (a b : A) → i < length xs → get_or xs i a ≡ get_or xs i b
any_default [] i a b h = absurd (omega (arith, h))
any_default (x ∷ xs) zero a b h = refl
any_default (x ∷ xs) (suc i) a b h = any_default xs i a b (omega (arith, h))

-- the default may stand at the end
pub push_default : {A : Type 0} (xs : List A) (d : A) (i : ℕ) → get_or (xs ++ d ∷ []) i d ≡ get_or xs i d
push_default [] d zero = refl
push_default [] d (suc i) = get_or_past (d ∷ []) (suc i) d (omega arith) ∙ sym (get_or_past [] (suc i) d (omega arith))
push_default (x ∷ xs) d zero = refl
push_default (x ∷ xs) d (suc i) = push_default xs d i

-- what a list comes to, one item more
pub flat_next : {A B : Type 0} (f : A → List B) (xs : List A) (i : ℕ) (d : A) → i < length xs → flat_map f (take (i + 1) xs) ≡ flat_map f (take i xs) ++ f (get_or xs i d)
flat_next f xs i d h =
    let x = get_or xs i d in
    ap (flat_map f) (take_next xs i x (get_at xs i d h)) ∙ flat_map-append f (take i xs) (x ∷ []) ∙ ap (λ ys. flat_map f (take i xs) ++ ys) (append-nil (f x))

-- ---- one line more

charges_push : (limits : Limits) (i : ℕ) (d : Standing) (shown : List TablesView) (tables : TablesView)
    → charges_from limits i d (shown ++ tables ∷ [])
    ≡ charges_from limits i d shown ++ charge_at tables.now (fold (after_line limits) d (shown ++ tables ∷ [])).places.0 i ∷ []
unfolding charges_from
charges_push limits i d [] tables = refl
charges_push limits i d (x ∷ xs) tables =
    ap (λ cs. charge_at x.now (after_line limits d x).places.0 i ∷ cs) (charges_push limits i (after_line limits d x) xs tables)

charges_snoc : (limits : Limits) (i : ℕ) (shown : List TablesView) (tables : TablesView)
    → charges_of limits i (shown ++ tables ∷ []) ≡ charges_of limits i shown ++ charge_at tables.now (places_of limits (shown ++ tables ∷ [])) i ∷ []
unfolding charges_of standing_of
charges_snoc limits i shown tables = charges_push limits i nothing shown tables

length-charges_from : (limits : Limits) (i : ℕ) (d : Standing) (shown : List TablesView) → length (charges_from limits i d shown) ≡ length shown
unfolding charges_from
length-charges_from limits i d [] = refl
length-charges_from limits i d (x ∷ xs) = ap suc (length-charges_from limits i (after_line limits d x) xs)

length-charges_of : (limits : Limits) (i : ℕ) (shown : List TablesView) → length (charges_of limits i shown) ≡ length shown
unfolding charges_of
length-charges_of limits i shown = length-charges_from limits i nothing shown

-- ---- all courses

-- each course has what its place is charged with after courses were added for new places, and each took an item
pub all_next : (now : ℕ) (places : Places) (none last : CourseView Charge) (old grown new : List (CourseView Charge)) → length places ≤ length grown
    → ((i : ℕ) → get_or grown i none ≡ get_or old i none) → length new ≡ length grown
    → ((d : CourseView Charge) (i : ℕ) → i + 1 ≤ length grown → get_or new i d ≡ with_item (get_or grown i d) (charge_at now places i))
    → last ≡ with_item none (record { now = now; charged = 0 }) → (i : ℕ) → get_or new i last ≡ with_item (get_or old i none) (charge_at now places i)
all_next now places none last old grown new enough same long each is i = by (cases_lt i (length grown))
  where
    by : (i < length grown) ⊎ (length grown ≤ i) → get_or new i last ≡ with_item (get_or old i none) (charge_at now places i)
    by (inl lt) =
        each last i (omega (arith, lt))
        ∙ ap (λ (c : CourseView Charge). with_item c (charge_at now places i)) (any_default grown i last none lt ∙ same i)
    by (inr le) =
        let past : get_or old i none ≡ none = sym (same i) ∙ get_or_past grown i none le in
        let gone : charged_at places i ≡ 0 = ap (λ o. option_map_or (λ (x : List ℕ × Held). x.1.charged) o 0) (slice_get_past places i (omega (arith, enough, le))) in
        get_or_past new i last (omega (arith, long, le)) ∙ is
        ∙ ap (λ (n : ℕ). with_item none (record { now = now; charged = n })) (sym gone)
        ∙ ap (λ (c : CourseView Charge). with_item c (charge_at now places i)) (sym past)

-- after a line more what is kept tells of it
pub blames_more : (shown : List TablesView) (tables : TablesView) (n : ℕ) (d : Diagnosis) (old new : Blame) → n ≡ tables.now → length shown ≤ 2 ^ 62 → new.diagnosis ≡ d
    → d.limits ≡ old.diagnosis.limits → Follows (shown ++ tables ∷ []) d → Blames shown old
    → ((i : ℕ) → course_of new i ≡ with_item (course_of old i) (charge_at n (places_of d.limits (shown ++ tables ∷ [])) i)) → Blames (shown ++ tables ∷ []) new
blames_more shown tables n d old new is few kept same follows h next = record {
  follows = subst (Follows (shown ++ tables ∷ [])) (sym kept) follows;
  courses = λ i. subst (λ (e : Diagnosis). IsCourse (charges_of e.limits i (shown ++ tables ∷ [])) (course_of new i)) (sym kept) (course i);
} where
  course : (i : ℕ) → IsCourse (charges_of d.limits i (shown ++ tables ∷ [])) (course_of new i)
  course i =
      let x = charge_at tables.now (places_of d.limits (shown ++ tables ∷ [])) i in
      let before : IsCourse (charges_of d.limits i shown) (course_of old i) = subst (λ (l : Limits). IsCourse (charges_of l i shown) (course_of old i)) (sym same) (h.courses i) in
      let taken : course_of new i ≡ with_item (course_of old i) x = next i ∙ ap (λ (m : ℕ). with_item (course_of old i) (charge_at m (places_of d.limits (shown ++ tables ∷ [])) i)) is in
      let long = length-charges_of d.limits i shown in
      subst (IsCourse (charges_of d.limits i (shown ++ tables ∷ []))) (sym taken)
      (subst (λ (xs : List Charge). IsCourse xs (with_item (course_of old i) x)) (sym (charges_snoc d.limits i shown tables))
      (with_item_is (charges_of d.limits i shown) (course_of old i) x (omega (arith, long, few)) before))

-- before the first line
pub blames_none : (b : Blame) → Follows [] b.diagnosis → b.courses.items ≡ [] → IsCourse [] b.none → Blames [] b
unfolding charges_of charges_from
blames_none b follows empty none = record {
  follows = follows;
  courses = λ i. subst (λ (cs : List (CourseView Charge)). IsCourse [] (get_or cs i b.none)) (sym empty)
      (subst (λ (c : CourseView Charge). IsCourse [] c) (sym (get_or_past [] i b.none (omega arith))) none);
}

-- ---- what the page is told

pub tell_whom : (limits : Limits) (shown : List TablesView) (now n : ℕ) (places : Places) (b : Blame) (blamed : List Blamed) → Blames shown b → b.diagnosis.limits ≡ limits → n ≡ now
    → places ≡ places_of b.diagnosis.limits shown → AreBlamed n places (λ i. (course_of b i).kept) blamed → TellWhom limits shown now blamed
tell_whom limits shown now n places b blamed h same is held are = record {
  kept = λ i. (course_of b i).kept;
  courses = λ i. record { course = course_of b i; is = subst (λ (l : Limits). IsCourse (charges_of l i shown) (course_of b i)) same (h.courses i); shows = refl };
  are = subst (λ (ps : Places). AreBlamed now ps (λ i. (course_of b i).kept) blamed) (held ∙ ap (λ (l : Limits). places_of l shown) same)
      (subst (λ (m : ℕ). AreBlamed m places (λ i. (course_of b i).kept) blamed) is are);
}
