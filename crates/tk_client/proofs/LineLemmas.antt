-- What a line makes of tables that have grown by it.
use Rattle.std.proofs.Common.{◌≡◌, ℕ, List, [], ◌∷◌, ◌++◌, Bool, true, false, cond, nat_eq, Option, Some, None, Result, Ok, Err, refl, ap, ap₂, sym, subst, ◌∙◌}
use Rattle.std.specs.Prelude.{map, filter, not, IfOk, option_map, option_and_then, ◌||◌, ◌&&◌}
use Rattle.std.specs.List.{list_any, list_all}
use Rattle.std.proofs.lemmas.Bool.{or_parts, and_parts}
use Rattle.tk_stream.specs.declared.tables.op.Op.{Op}
use Rattle.tk_stream.specs.declared.tables.resource.Resource.{Resource}
use Rattle.tk_stream.specs.declared.tables.task.Task.{Task}
use Rattle.tk_stream.specs.Lines.{LineView, is_new}
use Rattle.tk_stream.specs.Applied.{Kind, task_kind, resource_kind, op_kind, told_item, new_items, counts_after, tables_after}
use Rattle.tk_stream.specs.Tables.{TablesView, task_id, resource_id, op_id, counts_id, AreDistinct}
use Rattle.tk_stream.proofs.GoneLemmas.{staying_all}
use Rattle.tk_client.specs.declared.fault.Fault.{Fault}
use Rattle.tk_client.specs.declared.fault.Fault.TheVariants.{Memory, BadJson, BadShape, Gap, UnknownId, Repeated, TooLong, Misfit, Failed}
use Rattle.tk_client.specs.declared.taking.Finding.{Finding}
use Rattle.tk_client.specs.Taking.{has_twice, has_id, repeats_kind, strange_kind, fits_resource, fits_op, are_fitting, fitting, repeats_told, strange_told, repeats_id, has_strange_id, line_applied}
use Rattle.tk_client.specs.Applying.{finding, worse, has_info, Fails, info_id_by, stats_id_by, is_stranger, fits_told, or_misfit, tables_grown, tables_told, AreCounted, TellsOnce, told_part}
use Rattle.tk_client.proofs.IdLemmas.{any-has}
use Rattle.tk_client.proofs.FitLemmas.{rests, list_all-append, fit-told, old-rests, new-rests, new-told}
use Rattle.tk_client.proofs.KeyedLemmas.{are-counted, counts-grown}

-- ---- ids

pub strangers : {Item Info Stats : Type 0} (k : Kind Item Info Stats) (items : List Item) (infos : List Info) (ids : List ℕ) (stats : List Stats) → ids ≡ map (info_id_by k) infos
    → list_any (is_stranger k items ids) stats ≡ strange_kind k items infos stats
strangers k items infos ids [] same = refl
strangers k items infos ids (s ∷ stats) same =
    ap₂ (λ a b. not-either a || b) (ap (list_any (λ n. nat_eq (k.stats_id s) n)) same ∙ any-has k.info_id (k.stats_id s) infos) (strangers k items infos ids stats same)
  where
    not-either : Bool → Bool
    not-either b = not (has_id k.id_of (k.stats_id s) items || b)

pub found-as : {E : Type 0} (r : Result Finding E) (a b x y : Bool) → a ≡ x → b ≡ y → IfOk r (λ f. f ≡ finding a b) → IfOk r (λ f. f ≡ finding x y)
found-as r a b x y e f h = subst (λ z. IfOk r (λ g. g ≡ finding x z)) f (subst (λ z. IfOk r (λ g. g ≡ finding z b)) e h)

-- where no new item is there and none is told of twice, the new ids decide
pub new-decide : {Item Info Stats : Type 0} (k : Kind Item Info Stats) (items : List Item) (infos : List Info) (ids : List ℕ) (stats : List Stats) → ids ≡ map (info_id_by k) infos
    → list_any (has_info k items) infos ≡ false → has_twice (map (stats_id_by k) stats) ≡ false → has_twice ids ≡ repeats_kind k items infos stats
new-decide k items infos ids stats same none once =
    ap has_twice same ∙ sym (ap₂ (λ a b. a || (has_twice (map (info_id_by k) infos) || b)) none once ∙ or-false (has_twice (map (info_id_by k) infos)))
  where
    or-false : (b : Bool) → (b || false) ≡ b
    or-false true = refl
    or-false false = refl

pub worse-of : (a b c d : Bool) → worse (finding a b) (finding c d) ≡ finding (a || c) (b || d)
worse-of true b c d = refl
worse-of false true true d = refl
worse-of false true false true = refl
worse-of false true false false = refl
worse-of false false c d = refl

-- what is found of the parts is found of the line
pub worst : (a b c d e f g : Bool) → worse (finding a b) (worse (finding c d) (worse (finding e f) (finding g false))) ≡ finding (a || (c || (e || g))) (b || (d || f))
worst a b c d e f g =
    ap (λ x. worse (finding a b) (worse (finding c d) x)) (worse-of e f g false ∙ ap (finding (e || g)) (or-false f))
    ∙ ap (worse (finding a b)) (worse-of c d (e || g) f) ∙ worse-of a b (c || (e || g)) (d || f)
  where
    or-false : (x : Bool) → (x || false) ≡ x
    or-false true = refl
    or-false false = refl

-- a line that tells of no id twice
pub tells-once : (old : TablesView) (l : LineView) → repeats_told old l ≡ false → TellsOnce l
tells-once old l none =
    let p = or_parts (repeats_kind task_kind old.tasks l.new_tasks l.task_stats) _ none in
    let q = or_parts (repeats_kind resource_kind old.resources l.new_resources l.resource_stats) _ p.1 in
    let r = or_parts (repeats_kind op_kind old.ops l.new_ops l.op_stats) (has_twice (map counts_id l.poll_counts)) q.1 in
    record {
      tasks = (or_parts (has_twice (map (info_id_by task_kind) l.new_tasks)) (has_twice (map (stats_id_by task_kind) l.task_stats)) (or_parts _ _ p.0).1).1;
      resources = (or_parts (has_twice (map (info_id_by resource_kind) l.new_resources)) (has_twice (map (stats_id_by resource_kind) l.resource_stats)) (or_parts _ _ q.0).1).1;
      ops = (or_parts (has_twice (map (info_id_by op_kind) l.new_ops)) (has_twice (map (stats_id_by op_kind) l.op_stats)) (or_parts _ _ r.0).1).1;
      counts = r.1;
    }

-- ---- growth

map-append : {A B : Type 0} (f : A → B) (xs ys : List A) → map f (xs ++ ys) ≡ map f xs ++ map f ys
map-append f [] ys = refl
map-append f (x ∷ xs) ys = ap (λ zs. f x ∷ zs) (map-append f xs ys)

-- the new items of a line, as far as something is told of each
pub record Parts (old : TablesView) (l : LineView) (g : TablesView) : Type 0 where
  pub tasks : List Task
  pub resources : List Resource
  pub ops : List Op
  pub new_tasks : new_items task_kind l.task_stats l.new_tasks ≡ Some tasks
  pub new_resources : new_items resource_kind l.resource_stats l.new_resources ≡ Some resources
  pub new_ops : new_items op_kind l.op_stats l.new_ops ≡ Some ops
  pub grown : g ≡ record old {
    tasks = old.tasks ++ tasks;
    resources = old.resources ++ resources;
    ops = old.ops ++ ops;
    counts = old.counts ++ filter (is_new counts_id old.counts) l.poll_counts;
  }

-- tables grown of these new items, where there are such
abbrev grown_of : TablesView → LineView → Option (List Task) → Option (List Resource) → Option (List Op) → Option TablesView
grown_of old l ts rs os =
    option_and_then (λ tasks. option_and_then (λ resources. option_map (λ ops. record old {
      tasks = old.tasks ++ tasks;
      resources = old.resources ++ resources;
      ops = old.ops ++ ops;
      counts = old.counts ++ filter (is_new counts_id old.counts) l.poll_counts;
    }) os) rs) ts

parts : (old : TablesView) (l : LineView) (g : TablesView) → or_misfit (tables_grown old l) ≡ Ok g → Parts old l g
parts old l g e =
    by (new_items task_kind l.task_stats l.new_tasks) (new_items resource_kind l.resource_stats l.new_resources) (new_items op_kind l.op_stats l.new_ops) refl refl refl e
  where
    by : (ts : Option (List Task)) (rs : Option (List Resource)) (os : Option (List Op)) → new_items task_kind l.task_stats l.new_tasks ≡ ts → new_items resource_kind l.resource_stats l.new_resources ≡ rs
        → new_items op_kind l.op_stats l.new_ops ≡ os → or_misfit (grown_of old l ts rs os) ≡ Ok g → Parts old l g
    by None rs os t r o h = absurd (cc)
    by (Some ts) None os t r o h = absurd (cc)
    by (Some ts) (Some rs) None t r o h = absurd (cc)
    by (Some ts) (Some rs) (Some os) t r o h = record { tasks = ts; resources = rs; ops = os; new_tasks = t; new_resources = r; new_ops = o; grown = sym (ok-same h) }
      where
        ok-same : {x y : TablesView} → ◌≡◌ {A = Result TablesView Fault} (Ok x) (Ok y) → x ≡ y
        ok-same q = cc

-- no tables where one of the new items has nothing told of it
misfit : (old : TablesView) (l : LineView) (fault : Fault) → or_misfit (tables_grown old l) ≡ Err fault → fitting (tables_after old (told_part l)) ≡ Err fault
misfit old l fault e =
    by (new_items task_kind l.task_stats l.new_tasks) (new_items resource_kind l.resource_stats l.new_resources) (new_items op_kind l.op_stats l.new_ops) refl refl refl e
  where
    by : (ts : Option (List Task)) (rs : Option (List Resource)) (os : Option (List Op)) → new_items task_kind l.task_stats l.new_tasks ≡ ts → new_items resource_kind l.resource_stats l.new_resources ≡ rs
        → new_items op_kind l.op_stats l.new_ops ≡ os → or_misfit (grown_of old l ts rs os) ≡ Err fault → fitting (tables_after old (told_part l)) ≡ Err fault
    by None rs os t r o h = rw t h
    by (Some ts) None os t r o h = rw (t, r) h
    by (Some ts) (Some rs) None t r o h = rw (t, r, o) h
    by (Some ts) (Some rs) (Some os) t r o h = absurd (cc)

-- telling all of the grown tables makes the tables after the line
after-grown : (old : TablesView) (l : LineView) (g : TablesView) → has_twice (map counts_id l.poll_counts) ≡ false → Parts old l g → tables_after old (told_part l) ≡ Some (tables_told g l)
after-grown old l g once p =
    rw (p.new_tasks, p.new_resources, p.new_ops, staying_all task_id old.tasks, staying_all resource_id old.resources, staying_all op_id old.ops) (ap Some (λ i. record {
      tasks = sym (ap (λ (v : TablesView). map (told_item task_kind l.task_stats) v.tasks) p.grown ∙ map-append (told_item task_kind l.task_stats) old.tasks p.tasks
          ∙ ap (λ xs. map (told_item task_kind l.task_stats) old.tasks ++ xs) (new-told task_kind (λ _. true) (λ info s. refl) (λ info s. refl) l.task_stats l.new_tasks p.tasks p.new_tasks)) i;
      resources = sym (ap (λ (v : TablesView). map (told_item resource_kind l.resource_stats) v.resources) p.grown ∙ map-append (told_item resource_kind l.resource_stats) old.resources p.resources
          ∙ ap (λ xs. map (told_item resource_kind l.resource_stats) old.resources ++ xs) (new-told resource_kind (λ _. true) (λ info s. refl) (λ info s. refl) l.resource_stats l.new_resources p.resources p.new_resources)) i;
      ops = sym (ap (λ (v : TablesView). map (told_item op_kind l.op_stats) v.ops) p.grown ∙ map-append (told_item op_kind l.op_stats) old.ops p.ops
          ∙ ap (λ xs. map (told_item op_kind l.op_stats) old.ops ++ xs) (new-told op_kind (λ _. true) (λ info s. refl) (λ info s. refl) l.op_stats l.new_ops p.ops p.new_ops)) i;
      counts = sym (ap (λ (v : TablesView). counts_after v.counts l.poll_counts) p.grown ∙ counts-grown counts_id old.counts l.poll_counts once) i;
      dropped = l.dropped;
      now = l.now;
    }))

-- a look at the rows that are told is as good as one at all rows
fit-grown : (old : TablesView) (l : LineView) (g : TablesView) → are_fitting old ≡ true → TellsOnce l → AreDistinct g → Parts old l g
    → are_fitting (tables_told g l) ≡ (list_all (fits_told resource_kind fits_resource g.resources) l.resource_stats && list_all (fits_told op_kind fits_op g.ops) l.op_stats)
fit-grown old l g fit once distinct p =
    let q = and_parts (list_all fits_resource old.resources) (list_all fits_op old.ops) fit in
    ap₂ (λ a b. a && b)
    (fit-told resource_kind fits_resource l.resource_stats g.resources distinct.resources once.resources
    (ap (λ (v : TablesView). list_all (rests resource_kind fits_resource l.resource_stats) v.resources) p.grown
    ∙ list_all-append (rests resource_kind fits_resource l.resource_stats) old.resources p.resources (old-rests resource_kind fits_resource l.resource_stats old.resources q.0)
    (new-rests resource_kind fits_resource (λ info s. refl) (λ info s. refl) l.resource_stats l.new_resources p.resources p.new_resources)))
    (fit-told op_kind fits_op l.op_stats g.ops distinct.ops once.ops
    (ap (λ (v : TablesView). list_all (rests op_kind fits_op l.op_stats) v.ops) p.grown
    ∙ list_all-append (rests op_kind fits_op l.op_stats) old.ops p.ops (old-rests op_kind fits_op l.op_stats old.ops q.1)
    (new-rests op_kind fits_op (λ info s. refl) (λ info s. refl) l.op_stats l.new_ops p.ops p.new_ops)))

-- ---- a line

-- the tests that a line that is taken has passed
pub grown-fits : (old : TablesView) (l : LineView) (g : TablesView) → repeats_told old l ≡ false → strange_told old l ≡ false → are_fitting old ≡ true → AreDistinct g → or_misfit (tables_grown old l) ≡ Ok g
    → (list_all (fits_told resource_kind fits_resource g.resources) l.resource_stats && list_all (fits_told op_kind fits_op g.ops) l.op_stats) ≡ true → line_applied old (told_part l) ≡ Ok (tables_told g l)
unfolding line_applied
grown-fits old l g none known fit distinct e fits =
    let p = parts old l g e in
    let once = tells-once old l none in
    rw (none, known, after-grown old l g once.counts p, fit-grown old l g fit once distinct p ∙ fits) refl

pub grown-misfits : (old : TablesView) (l : LineView) (g : TablesView) → repeats_told old l ≡ false → strange_told old l ≡ false → are_fitting old ≡ true → AreDistinct g → or_misfit (tables_grown old l) ≡ Ok g
    → (list_all (fits_told resource_kind fits_resource g.resources) l.resource_stats && list_all (fits_told op_kind fits_op g.ops) l.op_stats) ≡ false → line_applied old (told_part l) ≡ Err Misfit
unfolding line_applied
grown-misfits old l g none known fit distinct e fits =
    let p = parts old l g e in
    let once = tells-once old l none in
    rw (none, known, after-grown old l g once.counts p, fit-grown old l g fit once distinct p ∙ fits) refl

not-grown : (old : TablesView) (l : LineView) (fault : Fault) → repeats_told old l ≡ false → strange_told old l ≡ false → or_misfit (tables_grown old l) ≡ Err fault → line_applied old (told_part l) ≡ Err fault
unfolding line_applied
not-grown old l fault none known e = rw (none, known) (misfit old l fault e)

pub grown-fails : (old : TablesView) (l : LineView) (fault : Fault) → repeats_told old l ≡ false → strange_told old l ≡ false → Fails fault (or_misfit (tables_grown old l)) → Fails fault (line_applied old (told_part l))
grown-fails old l Memory none known e = tt
grown-fails old l BadJson none known e = not-grown old l BadJson none known e
grown-fails old l BadShape none known e = not-grown old l BadShape none known e
grown-fails old l (Gap x y) none known e = not-grown old l (Gap x y) none known e
grown-fails old l UnknownId none known e = not-grown old l UnknownId none known e
grown-fails old l Repeated none known e = not-grown old l Repeated none known e
grown-fails old l TooLong none known e = not-grown old l TooLong none known e
grown-fails old l Misfit none known e = not-grown old l Misfit none known e
grown-fails old l Failed none known e = not-grown old l Failed none known e

-- each resource whose counts are told has some then
pub counted-grown : (old : TablesView) (l : LineView) (g : TablesView) → or_misfit (tables_grown old l) ≡ Ok g → AreCounted g.counts l.poll_counts
counted-grown old l g e = subst (λ (v : TablesView). AreCounted v.counts l.poll_counts) (sym (parts old l g e).grown) (are-counted counts_id old.counts l.poll_counts)

-- tables that a line made fit
pub applied-fits : (old : TablesView) (l : LineView) (t : TablesView) → line_applied old l ≡ Ok t → are_fitting t ≡ true
unfolding line_applied
applied-fits old l t e = by (repeats_id old l) (has_strange_id old l) (tables_after old l) e
  where
    test : (v : TablesView) (b : Bool) → are_fitting v ≡ b → cond b (Ok v) (Err Misfit) ≡ Ok t → are_fitting t ≡ true
    test v true is h = let same : v ≡ t = (cc) in ap are_fitting (sym same) ∙ is
    test v false is h = absurd (cc)

    by : (r s : Bool) (o : Option TablesView) → cond r (Err Repeated) (cond s (Err UnknownId) (fitting o)) ≡ Ok t → are_fitting t ≡ true
    by true s o h = absurd (cc)
    by false true o h = absurd (cc)
    by false false None h = absurd (cc)
    by false false (Some v) h = test v (are_fitting v) refl h
