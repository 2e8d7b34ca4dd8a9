-- What a line makes of tables is what it tells makes of them, without what is gone.
use Rattle.std.proofs.Common.{◌≡◌, ℕ, List, [], ◌∷◌, ◌++◌, Bool, true, false, cond, nat_eq, Option, Some, None, Result, Ok, Err, refl, ap, ap₂, sym, ◌∙◌, true≢false}
use Rattle.std.specs.Prelude.{map, filter, not, is_some, option_map, option_and_then, OnOk, OnErr, ◌||◌, ◌&&◌}
use Rattle.std.specs.List.{list_any, list_all}
use Rattle.std.specs.Option.{option_map_or}
use Rattle.std.proofs.lemmas.Bool.{or_parts, and_parts, eqb-true}
use Rattle.tk_stream.specs.declared.tables.op.Op.{Op}
use Rattle.tk_stream.specs.declared.tables.resource.Resource.{Resource}
use Rattle.tk_stream.specs.declared.tables.task.Task.{Task}
use Rattle.tk_stream.specs.Lines.{LineView, GoneView, gone_of}
use Rattle.tk_stream.specs.Applied.{Kind, task_kind, resource_kind, op_kind, told_item, new_items, counts_after, tables_after, without_gone}
use Rattle.tk_stream.specs.Tables.{TablesView, item_with, is_among, staying}
use Rattle.tk_stream.proofs.GoneLemmas.{staying_all}
use Rattle.tk_client.specs.declared.fault.Fault.{Fault}
use Rattle.tk_client.specs.declared.fault.Fault.TheVariants.{Memory, BadJson, BadShape, Gap, UnknownId, Repeated, TooLong, Misfit, Failed}
use Rattle.tk_client.specs.Taking.{has_twice, has_id, repeats_kind, repeats_gone_kind, strange_gone_kind, repeats_told, repeats_gone, repeats_id, strange_told, strange_gone, has_strange_id, fits_resource, fits_op, are_fitting, fitting, line_applied}
use Rattle.tk_client.specs.Applying.{Answers, Fails, finding, is_leaving, is_missing, told_part, left_by}
use Rattle.tk_client.specs.declared.taking.Finding.{Finding}
use Rattle.tk_client.specs.declared.taking.Finding.TheVariants.{Sound, Strange, Repeats}
use Rattle.tk_client.proofs.IdLemmas.{turned}
use Rattle.tk_client.proofs.LineLemmas.{applied-fits}

-- ---- what is told of what is gone

never : {X : Type 0} (xs : List X) → list_any (λ x. false) xs ≡ false
never [] = refl
never (x ∷ xs) = never xs

any-or : {X : Type 0} (p q : X → Bool) (xs : List X) → list_any (λ x. p x || q x) xs ≡ (list_any p xs || list_any q xs)
any-or p q [] = refl
any-or p q (x ∷ xs) = ap (λ b. (p x || q x) || b) (any-or p q xs) ∙ grouped (p x) (q x) (list_any p xs) (list_any q xs)
  where
    grouped : (a b c d : Bool) → ((a || b) || (c || d)) ≡ ((a || c) || (b || d))
    grouped true b c d = refl
    grouped false true true d = refl
    grouped false true false d = refl
    grouped false false c d = refl

any-id : {X : Type 0} (f : X → ℕ) (id : ℕ) (xs : List X) → list_any (λ x. nat_eq (f x) id) xs ≡ has_id f id xs
any-id f id [] = refl
any-id f id (x ∷ xs) = ap (λ b. b || list_any (λ y. nat_eq (f y) id) xs) (turned (f x) id) ∙ by (nat_eq id (f x)) (any-id f id xs)
  where
    by : (b : Bool) → list_any (λ y. nat_eq (f y) id) xs ≡ has_id f id xs → (b || list_any (λ y. nat_eq (f y) id) xs) ≡ is_some (cond b (Some x) (item_with f id xs))
    by true e = refl
    by false e = e

-- something is told of one that is gone where one that is gone is told of
swapped : {Item Info Stats : Type 0} (k : Kind Item Info Stats) (gone : List ℕ) (stats : List Stats) → list_any (is_leaving k gone) stats ≡ list_any (λ id. has_id k.stats_id id stats) gone
swapped k [] stats = never stats
swapped k (n ∷ ns) stats = any-or (λ s. nat_eq (k.stats_id s) n) (is_leaving k ns) stats ∙ ap₂ (λ a b. a || b) (any-id k.stats_id n stats) (swapped k ns stats)

-- what is found of the items of one kind
pub none-found : {Item Info Stats : Type 0} (k : Kind Item Info Stats) (old : List Item) (gone : List ℕ) (stats : List Stats) → gone ≡ [] → Sound ≡ finding (repeats_gone_kind k gone stats) (strange_gone_kind k old gone)
none-found k old gone stats e = rw e refl

pub repeats-found : {Item Info Stats : Type 0} (k : Kind Item Info Stats) (old : List Item) (gone : List ℕ) (stats : List Stats) → list_any (is_leaving k gone) stats ≡ true → Repeats ≡ finding (repeats_gone_kind k gone stats) (strange_gone_kind k old gone)
repeats-found k old gone stats told = sym (ap (λ b. finding b (strange_gone_kind k old gone)) (ap (λ b. has_twice gone || b) (sym (swapped k gone stats) ∙ told) ∙ either (has_twice gone)))
  where
    either : (b : Bool) → (b || true) ≡ true
    either true = refl
    either false = refl

pub others-found : {Item Info Stats : Type 0} (k : Kind Item Info Stats) (old : List Item) (gone : List ℕ) (stats : List Stats) (missing : Bool) → has_twice gone ≡ false → list_any (is_leaving k gone) stats ≡ false
    → list_any (is_missing k old) gone ≡ missing → finding false missing ≡ finding (repeats_gone_kind k gone stats) (strange_gone_kind k old gone)
others-found k old gone stats missing once untold misses = sym (ap₂ finding (ap₂ (λ a b. a || b) once (sym (swapped k gone stats) ∙ untold)) misses)

-- ---- items of one kind

module _ {Item Info Stats : Type 0} (k : Kind Item Info Stats) (keeps_id : (x : Item) (s : Stats) → k.id_of (k.item_of (k.info_of x) s) ≡ k.id_of x) (same_id : (info : Info) (s : Stats) → k.id_of (k.item_of info s) ≡ k.info_id info)
    (stats : List Stats) (gone : List ℕ) where
  -- items as they are told
  abbrev told : List Item → List Item
  told xs = map (told_item k stats) xs

  -- the items that stay
  abbrev stay : List Item → List Item
  stay xs = staying k.id_of gone xs

  told-id : (x : Item) → k.id_of (told_item k stats x) ≡ k.id_of x
  told-id x = by (item_with k.stats_id (k.id_of x) stats)
    where
      by : (o : Option Stats) → k.id_of (option_map_or (k.item_of (k.info_of x)) o x) ≡ k.id_of x
      by (Some s) = keeps_id x s
      by None = refl

  -- nothing is told of what is gone
  untold : (ids : List ℕ) (id : ℕ) → list_any (λ n. has_id k.stats_id n stats) ids ≡ false → is_among ids id ≡ true → item_with k.stats_id id stats ≡ None
  untold [] id none among = absurd (true≢false (sym among))
  untold (n ∷ ns) id none among =
      let p = or_parts (has_id k.stats_id n stats) (list_any (λ m. has_id k.stats_id m stats) ns) none in by (nat_eq id n) refl p.0 among (untold ns id p.1)
    where
      nothing : (o : Option Stats) → is_some o ≡ false → o ≡ None
      nothing (Some s) e = absurd (true≢false e)
      nothing None e = refl

      by : (b : Bool) → nat_eq id n ≡ b → has_id k.stats_id n stats ≡ false → (b || is_among ns id) ≡ true → (is_among ns id ≡ true → item_with k.stats_id id stats ≡ None) → item_with k.stats_id id stats ≡ None
      by true e h a rest = ap (λ m. item_with k.stats_id m stats) (eqb-true id n e) ∙ nothing (item_with k.stats_id n stats) h
      by false e h a rest = rest a

  -- what is gone was there
  not-gone : (old : List Item) (ids : List ℕ) (id : ℕ) → list_any (λ n. not (has_id k.id_of n old)) ids ≡ false → has_id k.id_of id old ≡ false → is_among ids id ≡ false
  not-gone old [] id known away = refl
  not-gone old (n ∷ ns) id known away =
      let p = or_parts (not (has_id k.id_of n old)) (list_any (λ m. not (has_id k.id_of m old)) ns) known in by (nat_eq id n) refl p.0 (not-gone old ns id p.1 away)
    where
      by : (b : Bool) → nat_eq id n ≡ b → not (has_id k.id_of n old) ≡ false → is_among ns id ≡ false → (b || is_among ns id) ≡ false
      by true e h rest = ap not (sym (ap (λ m. has_id k.id_of m old) (sym (eqb-true id n e)) ∙ away)) ∙ h
      by false e h rest = rest

  -- so no new item is gone
  new-stay : (old : List Item) (infos : List Info) (items : List Item) → new_items k stats infos ≡ Some items → list_any (λ info. has_id k.id_of (k.info_id info) old) infos ≡ false
      → list_any (λ n. not (has_id k.id_of n old)) gone ≡ false → stay items ≡ items
  new-stay old [] items e away known = let same : items ≡ [] = (cc) in ap stay same ∙ sym same
  new-stay old (info ∷ infos) items e away known =
      let p = or_parts (has_id k.id_of (k.info_id info) old) (list_any (λ i. has_id k.id_of (k.info_id i) old) infos) away in
      by (item_with k.stats_id (k.info_id info) stats) (new_items k stats infos) refl e p.0 (λ xs are. new-stay old infos xs are p.1 known)
    where
      by : (o : Option Stats) (r : Option (List Item)) → new_items k stats infos ≡ r → option_and_then (λ item. option_map (λ xs. item ∷ xs) r) (option_map (k.item_of info) o) ≡ Some items
          → has_id k.id_of (k.info_id info) old ≡ false → ((xs : List Item) → new_items k stats infos ≡ Some xs → stay xs ≡ xs) → stay items ≡ items
      by None r are g h rest = absurd (cc)
      by (Some s) None are g h rest = absurd (cc)
      by (Some s) (Some xs) are g h rest =
          let same : k.item_of info s ∷ xs ≡ items = (cc) in
          let here : is_among gone (k.id_of (k.item_of info s)) ≡ false = ap (is_among gone) (same_id info s) ∙ not-gone old gone (k.info_id info) known h in
          ap stay (sym same) ∙ ap₂ (λ b ys. cond (not b) (k.item_of info s ∷ ys) ys) here (rest xs are) ∙ same

  stay-append : (xs ys : List Item) → stay (xs ++ ys) ≡ stay xs ++ stay ys
  stay-append [] ys = refl
  stay-append (x ∷ xs) ys = by (is_among gone (k.id_of x)) (stay-append xs ys)
    where
      by : (b : Bool) → stay (xs ++ ys) ≡ stay xs ++ stay ys → cond (not b) (x ∷ stay (xs ++ ys)) (stay (xs ++ ys)) ≡ cond (not b) (x ∷ stay xs) (stay xs) ++ stay ys
      by true e = e
      by false e = ap (λ zs. x ∷ zs) e

  stay-told : (xs : List Item) → stay (told xs) ≡ told (stay xs)
  stay-told [] = refl
  stay-told (x ∷ xs) =
      ap (λ id. cond (not (is_among gone id)) (told_item k stats x ∷ stay (told xs)) (stay (told xs))) (told-id x)
      ∙ by (is_among gone (k.id_of x)) (stay-told xs)
    where
      by : (b : Bool) → stay (told xs) ≡ told (stay xs) → cond (not b) (told_item k stats x ∷ stay (told xs)) (stay (told xs)) ≡ told (cond (not b) (x ∷ stay xs) (stay xs))
      by true e = e
      by false e = ap (λ zs. told_item k stats x ∷ zs) e

  -- the items that are there after the line are those that it tells, without what is gone
  pub leave-last : (old : List Item) (infos : List Info) (items : List Item) → new_items k stats infos ≡ Some items → list_any (λ info. has_id k.id_of (k.info_id info) old) infos ≡ false
      → list_any (λ n. not (has_id k.id_of n old)) gone ≡ false → told (stay old) ++ items ≡ stay (told (staying k.id_of [] old) ++ items)
  leave-last old infos items e away known =
      sym (ap (λ xs. stay (told xs ++ items)) (staying_all k.id_of old) ∙ stay-append (told old) items ∙ ap₂ (λ xs ys. xs ++ ys) (stay-told old) (new-stay old infos items e away known))

  module _ (fits : Item → Bool) where
    all-append : (xs ys : List Item) → list_all fits (xs ++ ys) ≡ (list_all fits xs && list_all fits ys)
    all-append [] ys = refl
    all-append (x ∷ xs) ys = by (fits x) (all-append xs ys)
      where
        by : (b : Bool) → list_all fits (xs ++ ys) ≡ (list_all fits xs && list_all fits ys) → (b && list_all fits (xs ++ ys)) ≡ ((b && list_all fits xs) && list_all fits ys)
        by true e = e
        by false e = refl

    -- what is gone fits, as it did before
    stay-fits : (xs : List Item) → list_all fits xs ≡ true → list_any (λ n. has_id k.stats_id n stats) gone ≡ false → list_all fits (told (stay xs)) ≡ list_all fits (told xs)
    stay-fits [] fit none = refl
    stay-fits (x ∷ xs) fit none = let p = and_parts (fits x) (list_all fits xs) fit in by (is_among gone (k.id_of x)) refl p.0 (stay-fits xs p.1 none)
      where
        by : (b : Bool) → is_among gone (k.id_of x) ≡ b → fits x ≡ true → list_all fits (told (stay xs)) ≡ list_all fits (told xs)
            → list_all fits (told (cond (not b) (x ∷ stay xs) (stay xs))) ≡ (fits (told_item k stats x) && list_all fits (told xs))
        by false e f rest = ap (λ b. fits (told_item k stats x) && b) rest
        by true e f rest =
            let same : told_item k stats x ≡ x = ap (λ o. option_map_or (k.item_of (k.info_of x)) o x) (untold gone (k.id_of x) none e) in
            rest ∙ ap (λ b. b && list_all fits (told xs)) (sym (ap fits same ∙ f))

    pub same-fits : (old items : List Item) → list_all fits old ≡ true → list_any (λ n. has_id k.stats_id n stats) gone ≡ false
        → list_all fits (told (stay old) ++ items) ≡ list_all fits (told (staying k.id_of [] old) ++ items)
    same-fits old items fit none =
        all-append (told (stay old)) items ∙ ap (λ b. b && list_all fits items) (stay-fits old fit none)
        ∙ sym (all-append (told old) items) ∙ ap (λ xs. list_all fits (told xs ++ items)) (sym (staying_all k.id_of old))

-- ---- a line

-- tables that fit as well as those that lack some of their items
finish : (v w : TablesView) (gone : GoneView) → v ≡ without_gone w gone → are_fitting v ≡ are_fitting w → fitting (Some v) ≡ left_by gone (fitting (Some w))
finish v w gone same fit = ap (λ b. cond b (Ok v) (Err Misfit)) fit ∙ by (are_fitting w)
  where
    by : (b : Bool) → cond b (Ok v) (Err Misfit) ≡ left_by gone (cond b (Ok w) (Err Misfit))
    by true = ap Ok same
    by false = refl

leaves : (old : TablesView) (l : LineView) → repeats_id old l ≡ false → has_strange_id old l ≡ false → are_fitting old ≡ true → fitting (tables_after old l) ≡ left_by (gone_of l) (fitting (tables_after old (told_part l)))
leaves old l none known fit =
    by (new_items task_kind l.task_stats l.new_tasks) (new_items resource_kind l.resource_stats l.new_resources) (new_items op_kind l.op_stats l.new_ops) refl refl refl
  where
    gone : GoneView
    gone = gone_of l

    by : (ts : Option (List Task)) (rs : Option (List Resource)) (os : Option (List Op)) → new_items task_kind l.task_stats l.new_tasks ≡ ts → new_items resource_kind l.resource_stats l.new_resources ≡ rs
        → new_items op_kind l.op_stats l.new_ops ≡ os → fitting (tables_after old l) ≡ left_by (gone_of l) (fitting (tables_after old (told_part l)))
    by None rs os t r o = rw t refl
    by (Some ts) None os t r o = rw (t, r) refl
    by (Some ts) (Some rs) None t r o = rw (t, r, o) refl
    by (Some ts) (Some rs) (Some os) t r o =
        let p = or_parts (repeats_gone l) (repeats_told old l) none in
        let a = or_parts (repeats_gone_kind task_kind gone.tasks l.task_stats) (repeats_gone_kind resource_kind gone.resources l.resource_stats || repeats_gone_kind op_kind gone.ops l.op_stats) p.0 in
        let b = or_parts (repeats_gone_kind resource_kind gone.resources l.resource_stats) (repeats_gone_kind op_kind gone.ops l.op_stats) a.1 in
        let c = or_parts (repeats_kind task_kind old.tasks l.new_tasks l.task_stats) _ p.1 in
        let d = or_parts (repeats_kind resource_kind old.resources l.new_resources l.resource_stats) _ c.1 in
        let e = or_parts (repeats_kind op_kind old.ops l.new_ops l.op_stats) _ d.1 in
        let q = or_parts (strange_gone old l) (strange_told old l) known in
        let f = or_parts (strange_gone_kind task_kind old.tasks gone.tasks) (strange_gone_kind resource_kind old.resources gone.resources || strange_gone_kind op_kind old.ops gone.ops) q.0 in
        let g = or_parts (strange_gone_kind resource_kind old.resources gone.resources) (strange_gone_kind op_kind old.ops gone.ops) f.1 in
        let h = and_parts (list_all fits_resource old.resources) (list_all fits_op old.ops) fit in
        rw (t, r, o) (finish _ _ gone
        (λ i. record {
          tasks = leave-last task_kind (λ x s. refl) (λ info s. refl) l.task_stats gone.tasks old.tasks l.new_tasks ts t (or_parts _ _ c.0).0 f.0 i;
          resources = leave-last resource_kind (λ x s. refl) (λ info s. refl) l.resource_stats gone.resources old.resources l.new_resources rs r (or_parts _ _ d.0).0 g.0 i;
          ops = leave-last op_kind (λ x s. refl) (λ info s. refl) l.op_stats gone.ops old.ops l.new_ops os o (or_parts _ _ e.0).0 g.1 i;
          counts = counts_after old.counts l.poll_counts;
          dropped = l.dropped;
          now = l.now;
        })
        (ap₂ (λ x y. x && y)
        (same-fits resource_kind (λ x s. refl) (λ info s. refl) l.resource_stats gone.resources fits_resource old.resources rs h.0 (or_parts (has_twice gone.resources) _ b.0).1)
        (same-fits op_kind (λ x s. refl) (λ info s. refl) l.op_stats gone.ops fits_op old.ops os h.1 (or_parts (has_twice gone.ops) _ b.1).1)))

-- a line without a repeated or a strange id
left-last : (old : TablesView) (l : LineView) → repeats_id old l ≡ false → has_strange_id old l ≡ false → are_fitting old ≡ true → line_applied old l ≡ left_by (gone_of l) (line_applied old (told_part l))
unfolding line_applied
left-last old l none known fit =
    let p : repeats_told old l ≡ false = (or_parts (repeats_gone l) (repeats_told old l) none).1 in
    let q : strange_told old l ≡ false = (or_parts (strange_gone old l) (strange_told old l) known).1 in
    rw (none, known, p, q) (leaves old l none known fit)

fails-too : {A B : Type 0} (f : Result A Fault → Result B Fault) (fault : Fault) (wanted : Result A Fault) → (f (Err fault) ≡ Err fault) → Fails fault wanted → Fails fault (f wanted)
fails-too f Memory wanted e h = tt
fails-too f BadJson wanted e h = ap f h ∙ e
fails-too f BadShape wanted e h = ap f h ∙ e
fails-too f (Gap i j) wanted e h = ap f h ∙ e
fails-too f UnknownId wanted e h = ap f h ∙ e
fails-too f Repeated wanted e h = ap f h ∙ e
fails-too f TooLong wanted e h = ap f h ∙ e
fails-too f Misfit wanted e h = ap f h ∙ e
fails-too f Failed wanted e h = ap f h ∙ e

-- where what the line tells was applied, the line is once the items leave that are gone
pub left-answers : (r : Result (Unit {0}) Fault) (old new : TablesView) (l : LineView) (gone : GoneView) → gone ≡ gone_of l → repeats_id old l ≡ false → has_strange_id old l ≡ false → are_fitting old ≡ true
    → Answers (λ _. new) r (line_applied old (told_part l)) → Answers (λ _. without_gone new gone) r (line_applied old l)
left-answers (Ok done) old new l gone same none known fit h = left-last old l none known fit ∙ ap (left_by (gone_of l)) h ∙ ap (λ g. Ok (without_gone new g)) (sym same)
left-answers (Err fault) old new l gone same none known fit h =
    rw (left-last old l none known fit) (fails-too (left_by (gone_of l)) fault (line_applied old (told_part l)) refl h)

pub was-told : (r : Result (Unit {0}) Fault) (new : TablesView) (wanted : Result TablesView Fault) → Answers (λ _. new) r wanted → OnOk r (wanted ≡ Ok new)
was-told (Ok done) new wanted h = h
was-told (Err fault) new wanted h = tt

pub now-fits : (r : Result (Unit {0}) Fault) (old new : TablesView) (l : LineView) → are_fitting old ≡ true → Answers (λ _. new) r (line_applied old l) → OnErr r (new ≡ old) → are_fitting new ≡ true
now-fits (Ok done) old new l fit h kept = applied-fits old l new h
now-fits (Err fault) old new l fit h kept = ap are_fitting kept ∙ fit

-- where nothing is found, nothing is repeated or strange
pub nothing-found : (f : Finding) (a b : Bool) → f ≡ Sound → f ≡ finding a b → (a ≡ false) × (b ≡ false)
nothing-found f true b is e = let same : Sound ≡ Repeats = sym is ∙ e in absurd (cc)
nothing-found f false true is e = let same : Sound ≡ Strange = sym is ∙ e in absurd (cc)
nothing-found f false false is e = (refl, refl)

-- ---- tables that items leave

all-stay : {X : Type 0} (p q : X → Bool) (xs : List X) → list_all p xs ≡ true → list_all p (filter q xs) ≡ true
all-stay p q [] h = refl
all-stay p q (x ∷ xs) h = let r = and_parts (p x) (list_all p xs) h in by (q x) r.0 (all-stay p q xs r.1)
  where
    by : (b : Bool) → p x ≡ true → list_all p (filter q xs) ≡ true → list_all p (cond b (x ∷ filter q xs) (filter q xs)) ≡ true
    by true e f = ap₂ (λ a b. a && b) e f
    by false e f = f

-- they fit as before
pub left-fit : (t : TablesView) (gone : GoneView) → are_fitting t ≡ true → are_fitting (without_gone t gone) ≡ true
left-fit t gone fit =
    let p = and_parts (list_all fits_resource t.resources) (list_all fits_op t.ops) fit in
    ap₂ (λ a b. a && b) (all-stay fits_resource _ t.resources p.0) (all-stay fits_op _ t.ops p.1)

-- a line that says of an item twice that it is gone
pub gone-twice : (old : TablesView) (l : LineView) → repeats_gone l ≡ true → line_applied old l ≡ Err Repeated
unfolding line_applied
gone-twice old l twice = rw twice refl
