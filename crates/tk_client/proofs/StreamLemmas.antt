-- An uninterrupted stream is taken line by line.
use Rattle.std.proofs.Common.{◌≡◌, ℕ, ◌+◌, ◌≤◌, List, [], ◌∷◌, ◌++◌, length, take, drop, Bool, true, false, cond, nat_eq, Option, Some, None, Ok, Err, inl, inr, refl, ap, ap₂, sym, subst, ◌∙◌, arith, rules}
use Rattle.std.specs.Prelude.{map, filter, is_none, is_some, not, ◌||◌, ◌&&◌, unwrap_or, IfSome}
use Rattle.std.specs.List.{list_any, list_all, AllByRecursion, IsDistinct}
use Rattle.std.specs.Option.{option_map_or}
use Rattle.std.proofs.lemmas.Bool.{eq-eqb, and_parts, le-ltb}
use Rattle.std.proofs.lemmas.List.{take-append-drop, take-append-le}
use Rattle.std.proofs.Math.Seq.{take-append-add}
use Rattle.tk_ids.specs.Attributes.{kind_of, HaveKinds}
use Rattle.tk_ids.specs.declared.attr.AttrInfo.{AttrInfo}
use Rattle.tk_ids.specs.declared.attr.AttrKind.{AttrKind}
use Rattle.tk_ids.specs.declared.attr.AttrKind.TheVariants as kinds
use Rattle.tk_ids.specs.declared.attr.AttrValue.{AttrValue}
use Rattle.tk_stream.specs.declared.tables.op.Op.{Op}
use Rattle.tk_stream.specs.declared.tables.resource.Resource.{Resource}
use Rattle.tk_stream.specs.Applied.{Kind, task_kind, resource_kind, op_kind, tables_after, times_after, GoOn, what_stays}
use Rattle.tk_stream.specs.Lines.{LineView, GoneView, none_gone, gone_ids, gone_between, with_gone, with_times, is_seq, is_new, new_infos, told_stats, line_between, snapshot_of, task_stats_of, resource_stats_of, op_stats_of, all_counts, have_same_row, have_same_resource_row, have_same_op_row, task_info, resource_info, op_info}
use Rattle.tk_stream.specs.Ranges.{IsLine, IsGone, IsId, AreTold}
use Rattle.tk_stream.specs.Reading.{line_of_text}
use Rattle.tk_stream.specs.Rows.{same_counts}
use Rattle.tk_stream.specs.Spelling.{line_text, is_one_line}
use Rattle.tk_stream.specs.Tables.{TablesView, empty_tables, AreDistinct, AreFit, task_id, resource_id, op_id, counts_id, item_with}
use Rattle.tk_stream.proofs.LinesLemmas.{all_infos, all_stats, map-same}
use Rattle.tk_stream.proofs.NoEnds.{text_is_one_line}
use Rattle.tk_client.specs.declared.fault.Fault.{Fault}
use Rattle.tk_client.specs.declared.fault.Fault.TheVariants.{Memory, BadJson, BadShape, Gap, UnknownId, Repeated, TooLong, Misfit, Failed}
use Rattle.tk_client.specs.declared.fault.FeedError.{FeedError}
use Rattle.tk_client.specs.Feeding.{ClientView, Took, Stopped, StoppedBy}
use Rattle.tk_client.specs.Meaning.{Start, Outcome, goes, stops, expected, is_next, base_of, start_after, line_read, line_taken, times_base, cut, after as lines_before, too_long, ended, run, empty_start, meaning}
use Rattle.tk_client.specs.Streams.{AreShort, HasNoFault}
use Rattle.tk_stream.specs.Streams.{Sending, line_sent, line_untimed, lines_sent, bytes_sent, tables_sent, times_sent, AreToldOf, AreInRange, MaySend, GoesOn, IsUninterrupted}
use Rattle.tk_stream.specs.Times.{TaskTimes}
use Rattle.tk_client.proofs.ToldTimes.{IsAsTold, untold_checked, told_checked, told_sound, told_known}
use Rattle.tk_client.specs.Taking.{has_twice, has_id, repeats_kind, repeats_gone_kind, is_strange, strange_kind, strange_gone_kind, repeats_id, has_strange_id, is_kind, fit_attrs, fits_resource, fits_op, are_fitting, line_applied, line_checked}
use Rattle.tk_client.specs.Applying.{or_misfit}
use Rattle.tk_client.proofs.Ends.{nothing}
use Rattle.tk_client.proofs.FeedLemmas.{goes-then}
use Rattle.tk_client.proofs.IdLemmas.{own}
use Rattle.tk_client.proofs.Pieces.{meaning-append, stops-append}
use Rattle.tk_client.proofs.TakeLemmas.{line_fits}

itself : (n : ℕ) → nat_eq n n ≡ true
itself n = eq-eqb n n refl

-- ---- ids that stand once stay so where some are left out

module _ {Item Part : Type 0} (id_of : Item → ℕ) (part : Item → Part) (key : Part → ℕ) (same : (x : Item) → key (part x) ≡ id_of x) (p : Item → Bool) where
  any_kept : (id : ℕ) (xs : List Item) → AllByRecursion (λ n. nat_eq id n ≡ false) (map id_of xs) → list_any (λ m. nat_eq id m) (map key (map part (filter p xs))) ≡ false
  any_kept id [] apart = refl
  any_kept id (x ∷ xs) apart = by (p x) (any_kept id xs apart.1)
    where
      by : (b : Bool) → list_any (λ m. nat_eq id m) (map key (map part (filter p xs))) ≡ false → list_any (λ m. nat_eq id m) (map key (map part (cond b (x ∷ filter p xs) (filter p xs)))) ≡ false
      by true e = ap₂ (λ a b. a || b) (ap (nat_eq id) (same x) ∙ apart.0) e
      by false e = e

  kept_once : (xs : List Item) → IsDistinct nat_eq (map id_of xs) → has_twice (map key (map part (filter p xs))) ≡ false
  unfolding IsDistinct
  kept_once [] distinct = refl
  kept_once (x ∷ xs) distinct =
      by (p x) (ap (λ id. list_any (λ m. nat_eq id m) (map key (map part (filter p xs)))) (same x) ∙ any_kept (id_of x) xs distinct.0) (kept_once xs distinct.1)
    where
      by : (b : Bool) → list_any (λ m. nat_eq (key (part x)) m) (map key (map part (filter p xs))) ≡ false → has_twice (map key (map part (filter p xs))) ≡ false
          → has_twice (map key (map part (cond b (x ∷ filter p xs) (filter p xs)))) ≡ false
      by true e f = ap₂ (λ a b. a || b) e f
      by false e f = f

-- ---- items of one kind

module _ {Item Info Stats : Type 0} (k : Kind Item Info Stats) (stats_of : Item → Stats) (ids : (x : Item) → k.info_id (k.info_of x) ≡ k.id_of x) (keys : (x : Item) → k.stats_id (stats_of x) ≡ k.id_of x)
    (old : List Item) where
  abbrev new : Item → Bool
  new = is_new k.id_of old

  none_there : (xs : List Item) → list_any (λ info. has_id k.id_of (k.info_id info) old) (map k.info_of (filter new xs)) ≡ false
  none_there [] = refl
  none_there (x ∷ xs) = by (item_with k.id_of (k.id_of x) old) refl (none_there xs)
    where
      by : (o : Option Item) → item_with k.id_of (k.id_of x) old ≡ o → list_any (λ info. has_id k.id_of (k.info_id info) old) (map k.info_of (filter new xs)) ≡ false
          → list_any (λ info. has_id k.id_of (k.info_id info) old) (map k.info_of (cond (is_none o) (x ∷ filter new xs) (filter new xs))) ≡ false
      by (Some y) is e = e
      by None is e = ap₂ (λ a b. a || b) (ap (λ id. is_some (item_with k.id_of id old)) (ids x) ∙ ap is_some is) e

  pub repeats_nothing : (p : Item → Bool) (xs : List Item) → IsDistinct nat_eq (map k.id_of xs) → repeats_kind k old (map k.info_of (filter new xs)) (map stats_of (filter p xs)) ≡ false
  repeats_nothing p xs distinct =
      ap₂ (λ a b. a || b) (none_there xs) (ap₂ (λ a b. a || b) (kept_once k.id_of k.info_of k.info_id ids new xs distinct) (kept_once k.id_of stats_of k.stats_id keys p xs distinct))

  -- a new item is among those that are shown
  abbrev IsShown : List Info → Item → Type 0
  IsShown infos x = new x ≡ true → has_id k.info_id (k.id_of x) infos ≡ true

  also_shown : (info : Info) (infos : List Info) (id : ℕ) → has_id k.info_id id infos ≡ true → has_id k.info_id id (info ∷ infos) ≡ true
  also_shown info infos id e = by (nat_eq id (k.info_id info))
    where
      by : (b : Bool) → is_some (cond b (Some info) (item_with k.info_id id infos)) ≡ true
      by true = refl
      by false = e

  shown_after : (x : Item) (xs us : List Item) → AllByRecursion (IsShown (map k.info_of (filter new xs))) us → AllByRecursion (IsShown (map k.info_of (filter new (x ∷ xs)))) us
  shown_after x xs [] all = tt
  shown_after x xs (u ∷ us) all = ((λ n. by (new x) (all.0 n)), shown_after x xs us all.1)
    where
      by : (b : Bool) → has_id k.info_id (k.id_of u) (map k.info_of (filter new xs)) ≡ true → has_id k.info_id (k.id_of u) (map k.info_of (cond b (x ∷ filter new xs) (filter new xs))) ≡ true
      by true e = also_shown (k.info_of x) (map k.info_of (filter new xs)) (k.id_of u) e
      by false e = e

  shown_here : (x : Item) (xs : List Item) → IsShown (map k.info_of (filter new (x ∷ xs))) x
  shown_here x xs n =
      ap (λ b. has_id k.info_id (k.id_of x) (map k.info_of (cond b (x ∷ filter new xs) (filter new xs)))) n
      ∙ ap (λ b. is_some (cond b (Some (k.info_of x)) (item_with k.info_id (k.id_of x) (map k.info_of (filter new xs))))) (ap (nat_eq (k.id_of x)) (ids x) ∙ itself (k.id_of x))

  all_shown : (xs : List Item) → AllByRecursion (IsShown (map k.info_of (filter new xs))) xs
  all_shown [] = tt
  all_shown (x ∷ xs) = (shown_here x xs, shown_after x xs xs (all_shown xs))

  known : (infos : List Info) (x : Item) → IsShown infos x → is_strange k old infos (stats_of x) ≡ false
  known infos x shown = ap (λ id. not (has_id k.id_of id old || has_id k.info_id id infos)) (keys x) ∙ by (item_with k.id_of (k.id_of x) old) refl
    where
      by : (o : Option Item) → item_with k.id_of (k.id_of x) old ≡ o → not (is_some o || has_id k.info_id (k.id_of x) infos) ≡ false
      by (Some y) is = refl
      by None is = ap not (shown (ap is_none is))

  none_strange : (p : Item → Bool) (infos : List Info) (xs : List Item) → AllByRecursion (IsShown infos) xs → list_any (is_strange k old infos) (map stats_of (filter p xs)) ≡ false
  none_strange p infos [] all = refl
  none_strange p infos (x ∷ xs) all = by (p x) (known infos x all.0) (none_strange p infos xs all.1)
    where
      by : (b : Bool) → is_strange k old infos (stats_of x) ≡ false → list_any (is_strange k old infos) (map stats_of (filter p xs)) ≡ false
          → list_any (is_strange k old infos) (map stats_of (cond b (x ∷ filter p xs) (filter p xs))) ≡ false
      by true e f = ap₂ (λ a b. a || b) e f
      by false e f = f

  pub knows_all : (p : Item → Bool) (xs : List Item) → strange_kind k old (map k.info_of (filter new xs)) (map stats_of (filter p xs)) ≡ false
  knows_all p xs = none_strange p (map k.info_of (filter new xs)) xs (all_shown xs)

-- ---- what is gone, of one kind

module _ {Item Info Stats : Type 0} (k : Kind Item Info Stats) (stats_of : Item → Stats) (keys : (x : Item) → k.stats_id (stats_of x) ≡ k.id_of x) where
  -- nothing is told of what isn't there
  untold_away : (p : Item → Bool) (id : ℕ) (xs : List Item) → item_with k.id_of id xs ≡ None → has_id k.stats_id id (map stats_of (filter p xs)) ≡ false
  untold_away p id [] away = refl
  untold_away p id (x ∷ xs) away = by (nat_eq id (k.id_of x)) refl away (untold_away p id xs)
    where
      kept : (b c : Bool) → nat_eq id (k.id_of x) ≡ false → has_id k.stats_id id (map stats_of (filter p xs)) ≡ false → has_id k.stats_id id (map stats_of (cond c (x ∷ filter p xs) (filter p xs))) ≡ false
      kept b true other rest = ap (λ t. is_some (cond t (Some (stats_of x)) (item_with k.stats_id id (map stats_of (filter p xs))))) (ap (nat_eq id) (keys x) ∙ other) ∙ rest
      kept b false other rest = rest

      by : (b : Bool) → nat_eq id (k.id_of x) ≡ b → cond b (Some x) (item_with k.id_of id xs) ≡ None → (item_with k.id_of id xs ≡ None → has_id k.stats_id id (map stats_of (filter p xs)) ≡ false)
          → has_id k.stats_id id (map stats_of (cond (p x) (x ∷ filter p xs) (filter p xs))) ≡ false
      by true e g rest = absurd (cc)
      by false e g rest = kept false (p x) e (rest g)

  none_told : (p : Item → Bool) (after ys : List Item) → list_any (λ id. has_id k.stats_id id (map stats_of (filter p after))) (gone_ids k.id_of ys after) ≡ false
  none_told p after [] = refl
  none_told p after (y ∷ ys) = by (item_with k.id_of (k.id_of y) after) refl (none_told p after ys)
    where
      rest : List Item
      rest = filter (is_new k.id_of after) ys

      by : (o : Option Item) → item_with k.id_of (k.id_of y) after ≡ o → list_any (λ id. has_id k.stats_id id (map stats_of (filter p after))) (map k.id_of rest) ≡ false
          → list_any (λ id. has_id k.stats_id id (map stats_of (filter p after))) (map k.id_of (cond (is_none o) (y ∷ rest) rest)) ≡ false
      by (Some z) is e = e
      by None is e = ap₂ (λ a b. a || b) (untold_away p (k.id_of y) after is) e

  pub repeats_none_gone : (p : Item → Bool) (old after : List Item) → IsDistinct nat_eq (map k.id_of old) → repeats_gone_kind k (gone_ids k.id_of old after) (map stats_of (filter p after)) ≡ false
  repeats_none_gone p old after distinct =
      ap₂ (λ a b. a || b)
      (ap has_twice (sym (map-same (gone_ids k.id_of old after))) ∙ kept_once k.id_of k.id_of (λ n. n) (λ x. refl) (is_new k.id_of after) old distinct)
      (none_told p after old)

-- what is gone was there
module _ {Item Info Stats : Type 0} (k : Kind Item Info Stats) where
  all_known : (p : Item → Bool) (old xs : List Item) → AllByRecursion (λ x. item_with k.id_of (k.id_of x) old ≡ Some x) xs → list_any (λ id. not (has_id k.id_of id old)) (map k.id_of (filter p xs)) ≡ false
  all_known p old [] all = refl
  all_known p old (x ∷ xs) all = by (p x) (all_known p old xs all.1)
    where
      by : (b : Bool) → list_any (λ id. not (has_id k.id_of id old)) (map k.id_of (filter p xs)) ≡ false
          → list_any (λ id. not (has_id k.id_of id old)) (map k.id_of (cond b (x ∷ filter p xs) (filter p xs))) ≡ false
      by true e = ap₂ (λ a b. a || b) (ap (λ o. not (is_some o)) all.0) e
      by false e = e

  pub knows_gone : (old after : List Item) → IsDistinct nat_eq (map k.id_of old) → strange_gone_kind k old (gone_ids k.id_of old after) ≡ false
  knows_gone old after distinct = all_known (is_new k.id_of after) old old (own k.id_of old distinct)

-- ---- rows

same_kind : (a : AttrKind) → is_kind a a ≡ true
same_kind kinds.U64 = refl
same_kind kinds.Bool = refl
same_kind kinds.I64 = refl

kinds_fit : (attrs : List AttrInfo) (values : List AttrValue) → HaveKinds attrs values → fit_attrs attrs values ≡ true
kinds_fit [] [] e = refl
kinds_fit [] (v ∷ vs) e = absurd (cc)
kinds_fit (a ∷ attrs) [] e = absurd (cc)
kinds_fit (a ∷ attrs) (v ∷ vs) e =
    let first : kind_of v ≡ a.kind = (cc) in
    let rest : HaveKinds attrs vs = (cc) in
    ap₂ (λ x y. x && y) (ap (λ x. is_kind x a.kind) first ∙ same_kind a.kind) (kinds_fit attrs vs rest)

resources_fit : (rs : List Resource) → AllByRecursion (λ r. HaveKinds r.info.attrs r.row.attrs) rs → list_all fits_resource rs ≡ true
resources_fit [] all = refl
resources_fit (r ∷ rs) all = ap₂ (λ x y. x && y) (kinds_fit r.info.attrs r.row.attrs all.0) (resources_fit rs all.1)

ops_fit : (os : List Op) → AllByRecursion (λ o. HaveKinds o.info.attrs o.row.attrs) os → list_all fits_op os ≡ true
ops_fit [] all = refl
ops_fit (o ∷ os) all = ap₂ (λ x y. x && y) (kinds_fit o.info.attrs o.row.attrs all.0) (ops_fit os all.1)

-- ---- the line between tables

pub no_repeats : (old after : TablesView) (seq : ℕ) → AreDistinct after → repeats_id old (line_between old after seq) ≡ false
no_repeats old after seq once =
    ap₂ (λ a b. a || b) (repeats_nothing task_kind task_stats_of (λ x. refl) (λ x. refl) old.tasks _ after.tasks once.tasks)
    (ap₂ (λ a b. a || b) (repeats_nothing resource_kind resource_stats_of (λ x. refl) (λ x. refl) old.resources _ after.resources once.resources)
    (ap₂ (λ a b. a || b) (repeats_nothing op_kind op_stats_of (λ x. refl) (λ x. refl) old.ops _ after.ops once.ops)
    (kept_once counts_id all_counts counts_id (λ x. refl) _ after.counts once.counts)))

pub no_strangers : (old after : TablesView) (seq : ℕ) → has_strange_id old (line_between old after seq) ≡ false
no_strangers old after seq =
    ap₂ (λ a b. a || b) (knows_all task_kind task_stats_of (λ x. refl) (λ x. refl) old.tasks _ after.tasks)
    (ap₂ (λ a b. a || b) (knows_all resource_kind resource_stats_of (λ x. refl) (λ x. refl) old.resources _ after.resources)
    (knows_all op_kind op_stats_of (λ x. refl) (λ x. refl) old.ops _ after.ops))

-- a line that says what is gone
abbrev line_less : TablesView → TablesView → ℕ → LineView
line_less old after seq = with_gone (gone_between old after) (line_between old after seq)

no_repeats_less : (old after : TablesView) (seq : ℕ) → AreDistinct old → AreDistinct after → repeats_id old (line_less old after seq) ≡ false
no_repeats_less old after seq distinct once =
    ap₂ (λ a b. a || b)
    (ap₂ (λ a b. a || b) (repeats_none_gone task_kind task_stats_of (λ x. refl) _ old.tasks after.tasks distinct.tasks)
    (ap₂ (λ a b. a || b) (repeats_none_gone resource_kind resource_stats_of (λ x. refl) _ old.resources after.resources distinct.resources)
    (repeats_none_gone op_kind op_stats_of (λ x. refl) _ old.ops after.ops distinct.ops)))
    (no_repeats old after seq once)

no_strangers_less : (old after : TablesView) (seq : ℕ) → AreDistinct old → has_strange_id old (line_less old after seq) ≡ false
no_strangers_less old after seq distinct =
    ap₂ (λ a b. a || b)
    (ap₂ (λ a b. a || b) (knows_gone task_kind old.tasks after.tasks distinct.tasks)
    (ap₂ (λ a b. a || b) (knows_gone resource_kind old.resources after.resources distinct.resources)
    (knows_gone op_kind old.ops after.ops distinct.ops)))
    (no_strangers old after seq)

fits_all : (after : TablesView) → AreFit after → are_fitting after ≡ true
fits_all after fit = ap₂ (λ x y. x && y) (resources_fit after.resources fit.resources) (ops_fit after.ops fit.ops)

empty_fit : AreFit empty_tables
unfolding IsDistinct
empty_fit = record { distinct = record { tasks = tt; resources = tt; ops = tt; counts = tt }; resources = tt; ops = tt }

-- ---- ranges

few : {X Y : Type 0} (P : Y → Type 0) (f : X → Y) (p : X → Bool) (xs : List X) → AllByRecursion P (map f xs) → AllByRecursion P (map f (filter p xs))
few P f p [] all = tt
few P f p (x ∷ xs) all = by (p x) (few P f p xs all.1)
  where
    by : (b : Bool) → AllByRecursion P (map f (filter p xs)) → AllByRecursion P (map f (cond b (x ∷ filter p xs) (filter p xs)))
    by true rest = (all.0, rest)
    by false rest = rest

infos_in : {Item Info : Type 0} (P : Info → Type 0) (id_of : Item → ℕ) (info_of : Item → Info) (old xs : List Item) → AllByRecursion P (new_infos id_of info_of [] xs) → AllByRecursion P (new_infos id_of info_of old xs)
infos_in P id_of info_of old xs all = few P info_of (is_new id_of old) xs (subst (AllByRecursion P) (all_infos id_of info_of xs) all)

stats_in : {Item Stats : Type 0} (P : Stats → Type 0) (id_of : Item → ℕ) (same : Item → Item → Bool) (stats_of : Item → Stats) (old xs : List Item) → AllByRecursion P (told_stats id_of same stats_of [] xs)
    → AllByRecursion P (told_stats id_of same stats_of old xs)
stats_in P id_of same stats_of old xs all = few P stats_of _ xs (subst (AllByRecursion P) (all_stats id_of same stats_of xs) all)

pub between_in : (old after : TablesView) (seq : ℕ) → AreInRange after → is_seq seq ≡ true → IsLine (line_between old after seq)
between_in old after seq all numbered = record {
  dropped = all.dropped;
  gone = tt;
  new_ops = infos_in _ op_id op_info old.ops after.ops all.new_ops;
  new_resources = infos_in _ resource_id resource_info old.resources after.resources all.new_resources;
  new_tasks = infos_in _ task_id task_info old.tasks after.tasks all.new_tasks;
  now = all.now;
  op_stats = stats_in _ op_id have_same_op_row op_stats_of old.ops after.ops all.op_stats;
  poll_counts = stats_in _ counts_id same_counts all_counts old.counts after.counts all.poll_counts;
  resource_stats = stats_in _ resource_id have_same_resource_row resource_stats_of old.resources after.resources all.resource_stats;
  seq = numbered;
  task_stats = stats_in _ task_id have_same_row task_stats_of old.tasks after.tasks all.task_stats;
  task_times = tt;
}

pub snapshot_in : (after : TablesView) (seq : ℕ) → AreInRange after → is_seq seq ≡ true → IsLine (snapshot_of after seq)
snapshot_in after seq all numbered = record {
  dropped = all.dropped;
  gone = tt;
  new_ops = all.new_ops;
  new_resources = all.new_resources;
  new_tasks = all.new_tasks;
  now = all.now;
  op_stats = all.op_stats;
  poll_counts = all.poll_counts;
  resource_stats = all.resource_stats;
  seq = numbered;
  task_stats = all.task_stats;
  task_times = tt;
}

-- the same line with what is gone
gone_in : (gone : GoneView) (l : LineView) → IsGone gone → IsLine l → IsLine (with_gone gone l)
gone_in gone l in_range all = record {
  dropped = all.dropped;
  gone = in_range;
  new_ops = all.new_ops;
  new_resources = all.new_resources;
  new_tasks = all.new_tasks;
  now = all.now;
  op_stats = all.op_stats;
  poll_counts = all.poll_counts;
  resource_stats = all.resource_stats;
  seq = all.seq;
  task_stats = all.task_stats;
  task_times = told l.task_times all.task_times;
}
  where
    told : (times : Option (List TaskTimes)) → IfSome times (AreTold l.gone) → IfSome times (AreTold (Some gone))
    told None none = tt
    told (Some times) is = record { each = is.each; said = refl }

ids_in : {Item Stats : Type 0} (P : Stats → Type 0) (id_of : Item → ℕ) (same : Item → Item → Bool) (stats_of : Item → Stats) → ((x : Item) → P (stats_of x) → IsId (id_of x)) → (p : Item → Bool) (xs : List Item)
    → AllByRecursion P (told_stats id_of same stats_of [] xs) → AllByRecursion IsId (map id_of (filter p xs))
ids_in P id_of same stats_of reads p xs all = few IsId id_of p xs (each xs (subst (AllByRecursion P) (all_stats id_of same stats_of xs) all))
  where
    each : (ys : List _) → AllByRecursion P (map stats_of ys) → AllByRecursion IsId (map id_of ys)
    each [] h = tt
    each (y ∷ ys) h = (reads y h.0, each ys h.1)

between_gone : (old after : TablesView) → AreInRange old → IsGone (gone_between old after)
between_gone old after all = record {
  ops = ids_in _ op_id have_same_op_row op_stats_of (λ x h. h.id) _ old.ops all.op_stats;
  resources = ids_in _ resource_id have_same_resource_row resource_stats_of (λ x h. h.id) _ old.resources all.resource_stats;
  tasks = ids_in _ task_id have_same_row task_stats_of (λ x h. h.id) _ old.tasks all.task_stats;
}

empty_in : AreInRange empty_tables
empty_in = record {
  dropped = record { tasks = search rules; resources = search rules; ops = search rules };
  gone = tt;
  new_ops = tt;
  new_resources = tt;
  new_tasks = tt;
  now = search rules;
  op_stats = tt;
  poll_counts = tt;
  resource_stats = tt;
  seq = refl;
  task_stats = tt;
  task_times = tt;
}

-- ---- one line

cut_line : (bs : List ℕ) → is_one_line bs ≡ true → cut (bs ++ 10 ∷ []) ≡ (bs ∷ [], [])
cut_line [] h = refl
cut_line (b ∷ bs) h =
    let p = and_parts (not (nat_eq b 10)) (is_one_line bs) h in
    let is : nat_eq b 10 ≡ false = flipped (nat_eq b 10) p.0 in
    rw (is, cut_line bs p.1) refl
  where
    flipped : (b : Bool) → not b ≡ true → b ≡ false
    flipped true e = absurd (cc)
    flipped false e = refl

-- where a client stands after a whole line
abbrev standing : TablesView → List TaskTimes → Option ℕ → Start
standing tables times last = record { tables = tables; last = last; part = []; times = times }

one_line : (max : ℕ) (tables after : TablesView) (times later : List TaskTimes) (last next : Option ℕ) (text : List ℕ) → is_one_line text ≡ true → length text ≤ max
    → line_taken tables times last text ≡ Ok (standing after later next)
    → meaning max (standing tables times last) (text ++ 10 ∷ []) ≡ goes (standing after later next) 1
one_line max tables after times later last next text whole short taken =
    ap (λ (c : List (List ℕ) × List ℕ). run max (standing tables times last) c.0 c.1) (cut_line text whole)
    ∙ ap (λ b. cond b (too_long max (standing tables times last)) (ended tables (length text + 1) (line_taken tables times last text) (λ u. run max u [] []))) (le-ltb max (length text) short)
    ∙ ap (λ r. ended tables (length text + 1) r (λ u. run max u [] [])) taken
    ∙ ap (λ b. lines_before 1 (length text + 1) (cond b (too_long max (standing after later next)) (goes (standing after later next) 0))) (le-ltb max 0 (omega arith))

-- a line of any kind: a snapshot or not, which says what is gone or not
abbrev line_by : Bool → Bool → TablesView → TablesView → ℕ → LineView
line_by b r before after seq = line_untimed before (record { tables = after; seq = seq; snapshot = b; removes = r; told = None })

next_number : (b r : Bool) (before after : TablesView) (seq last : ℕ) → seq ≡ last + 1 → is_next (Some last) (line_by b r before after seq) ≡ true
next_number true true before after seq last e = eq-eqb seq (last + 1) e
next_number true false before after seq last e = eq-eqb seq (last + 1) e
next_number false true before after seq last e = eq-eqb seq (last + 1) e
next_number false false before after seq last e = eq-eqb seq (last + 1) e

first_number : (b r : Bool) (before after : TablesView) (seq : ℕ) → (b || nat_eq seq 1) ≡ true → is_next None (line_by b r before after seq) ≡ true
first_number true true before after seq e = refl
first_number true false before after seq e = refl
first_number false true before after seq e = e
first_number false false before after seq e = e

-- ---- histograms that it tells

-- a line as it is sent, with the histograms that it tells, if it does
abbrev timed : Option (List TaskTimes) → LineView → LineView
timed told l = option_map_or (λ times. with_times times l) told l

timed_in : (told : Option (List TaskTimes)) (after : TablesView) (l : LineView) → IfSome told (AreToldOf after) → l.task_times ≡ None → IsLine l → IsLine (timed told l)
timed_in None after l h none all = all
timed_in (Some times) after l h none all = record {
  dropped = all.dropped;
  gone = said l.gone all.gone;
  new_ops = all.new_ops;
  new_resources = all.new_resources;
  new_tasks = all.new_tasks;
  now = all.now;
  op_stats = all.op_stats;
  poll_counts = all.poll_counts;
  resource_stats = all.resource_stats;
  seq = all.seq;
  task_stats = all.task_stats;
  task_times = record { each = h.each; said = refl };
}
  where
    said : (gone : Option GoneView) → IfSome gone IsGone → IsGone (unwrap_or gone none_gone)
    said None none = record { ops = tt; resources = tt; tasks = tt }
    said (Some gone) is = is

timed_next : (told : Option (List TaskTimes)) (last : Option ℕ) (l : LineView) → is_next last l ≡ true → is_next last (timed told l) ≡ true
timed_next None last l e = e
timed_next (Some times) None l e = e
timed_next (Some times) (Some n) l e = e

timed_applied : (told : Option (List TaskTimes)) (base after : TablesView) (l : LineView) → IfSome told (AreToldOf after) → l.task_times ≡ None
    → IsAsTold base after l → line_applied base l ≡ Ok after → line_checked base (timed told l) ≡ Ok after
unfolding line_applied
timed_applied None base after l h none shape applied = untold_checked base l none ∙ applied
timed_applied (Some times) base after l h none shape applied =
    told_checked base (with_times times l) (told_sound base after l times h shape) (told_known base after l times h shape) ∙ applied

timed_base : (told : Option (List TaskTimes)) (tables : TablesView) (l : LineView) → base_of tables (timed told l) ≡ base_of tables l
timed_base None tables l = refl
timed_base (Some times) tables l = refl

timed_seq : (told : Option (List TaskTimes)) (l : LineView) → (timed told l).seq ≡ l.seq
timed_seq None l = refl
timed_seq (Some times) l = refl

-- the histograms that a line is applied to
times_by : (told : Option (List TaskTimes)) (b r : Bool) (before after : TablesView) (seq : ℕ) (times : List TaskTimes)
    → times_base times (timed told (line_by b r before after seq)) ≡ cond b [] times
times_by None true true before after seq times = refl
times_by None true false before after seq times = refl
times_by None false true before after seq times = refl
times_by None false false before after seq times = refl
times_by (Some ts) true true before after seq times = refl
times_by (Some ts) true false before after seq times = refl
times_by (Some ts) false true before after seq times = refl
times_by (Some ts) false false before after seq times = refl

-- ---- streams, by the laws of lines

-- what a stream comes to, from tables and histograms on and after a line of that number
abbrev Comes : ℕ → TablesView → List TaskTimes → Option ℕ → List Sending → Type 0
Comes max before times last sent =
    (t : Start) × (meaning max (standing before times last) (bytes_sent (lines_sent before sent)) ≡ goes t (length sent)) × (t.tables ≡ tables_sent before sent) × (t.part ≡ []) × (t.times ≡ times_sent times before sent)

module _ (lead : (old after : TablesView) (seq : ℕ) → AreFit old → AreFit after → GoOn old after → tables_after old (line_between old after seq) ≡ Some after)
    (less : (old after : TablesView) (seq : ℕ) → AreFit old → AreFit after → GoOn (what_stays old after) after → tables_after old (with_gone (gone_between old after) (line_between old after seq)) ≡ Some after)
    (tell : (tables : TablesView) (seq : ℕ) → AreFit tables → tables_after empty_tables (snapshot_of tables seq) ≡ Some tables)
    (read : (l : LineView) → IsLine l → line_of_text (line_text l) ≡ Ok l) where
  -- a line that is read and has no fault is taken
  taken_at : (before after : TablesView) (times : List TaskTimes) (last : Option ℕ) (l : LineView) → IsLine l → is_next last l ≡ true → line_checked (base_of before l) l ≡ Ok after
      → line_taken before times last (line_text l) ≡ Ok (standing after (times_after (times_base times l) l) (Some l.seq))
  unfolding line_taken
  taken_at before after times last l in_range next applied =
      ap (line_read before times last) (read l in_range)
      ∙ ap (λ b. cond b (start_after l times (line_checked (base_of before l) l)) (Err (Gap (expected last) l.seq))) next
      ∙ ap (start_after l times) applied

  -- so is one without histograms, with those that are told beside it
  told_at : (told : Option (List TaskTimes)) (before after : TablesView) (times : List TaskTimes) (last : Option ℕ) (l : LineView) → IfSome told (AreToldOf after) → l.task_times ≡ None
      → IsAsTold (base_of before l) after l → IsLine l → is_next last l ≡ true → line_applied (base_of before l) l ≡ Ok after
      → line_taken before times last (line_text (timed told l)) ≡ Ok (standing after (times_after (times_base times (timed told l)) (timed told l)) (Some l.seq))
  told_at told before after times last l h none shape in_range next applied =
      taken_at before after times last (timed told l) (timed_in told after l h none in_range) (timed_next told last l next)
      (ap (λ base. line_checked base (timed told l)) (timed_base told before l) ∙ timed_applied told (base_of before l) after l h none shape applied)
      ∙ ap (λ n. Ok (standing after (times_after (times_base times (timed told l)) (timed told l)) (Some n))) (timed_seq told l)

  taken_by : (told : Option (List TaskTimes)) (b r : Bool) (before after : TablesView) (times : List TaskTimes) (seq : ℕ) (last : Option ℕ) → IfSome told (AreToldOf after)
      → AreFit before → AreFit after → (b ≡ false → GoOn (cond (r && not b) (what_stays before after) before) after) → AreInRange before → AreInRange after
      → is_seq seq ≡ true → is_next last (line_by b r before after seq) ≡ true
      → line_taken before times last (line_text (timed told (line_by b r before after seq)))
      ≡ Ok (standing after (times_after (times_base times (timed told (line_by b r before after seq))) (timed told (line_by b r before after seq))) (Some seq))
  taken_by told true false before after times seq last h old fit on was all numbered next =
      let l : LineView = snapshot_of after seq in
      told_at told before after times last l h refl (record { gone = inl refl; new = refl }) (snapshot_in after seq all numbered) next
      (line_fits empty_tables l after (no_repeats empty_tables after seq fit.distinct) (no_strangers empty_tables after seq) (ap or_misfit (tell after seq fit)) (fits_all after fit))
  taken_by told true true before after times seq last h old fit on was all numbered next =
      let l : LineView = with_gone none_gone (snapshot_of after seq) in
      told_at told before after times last l h refl (record { gone = inl refl; new = refl }) (gone_in none_gone (snapshot_of after seq) (record { ops = tt; resources = tt; tasks = tt }) (snapshot_in after seq all numbered)) next
      (line_fits empty_tables l after (no_repeats empty_tables after seq fit.distinct) (no_strangers empty_tables after seq) (ap or_misfit (tell after seq fit)) (fits_all after fit))
  taken_by told false false before after times seq last h old fit on was all numbered next =
      let l : LineView = line_between before after seq in
      told_at told before after times last l h refl (record { gone = inl refl; new = refl }) (between_in before after seq all numbered) next
      (line_fits before l after (no_repeats before after seq fit.distinct) (no_strangers before after seq) (ap or_misfit (lead before after seq old fit (on refl))) (fits_all after fit))
  taken_by told false true before after times seq last h old fit on was all numbered next =
      let l : LineView = line_less before after seq in
      told_at told before after times last l h refl (record { gone = inr refl; new = refl }) (gone_in (gone_between before after) (line_between before after seq) (between_gone before after was) (between_in before after seq all numbered)) next
      (line_fits before l after (no_repeats_less before after seq old.distinct fit.distinct) (no_strangers_less before after seq old.distinct) (ap or_misfit (less before after seq old fit (on refl))) (fits_all after fit))

  -- a line, and what comes after it
  line_first : (max : ℕ) (before : TablesView) (times : List TaskTimes) (last : Option ℕ) (s : Sending) (ss : List Sending) → AreFit before → AreInRange before → MaySend before s
      → is_next last (line_by s.snapshot s.removes before s.tables s.seq) ≡ true
      → length (line_text (line_sent before s)) ≤ max → ((later : List TaskTimes) → Comes max s.tables later (Some s.seq) ss) → Comes max before times last (s ∷ ss)
  line_first max before times last s ss old was may next short rest =
      let l : LineView = line_sent before s in
      let later : List TaskTimes = times_after (times_base times l) l in
      let more : Comes max s.tables later (Some s.seq) ss = rest later in
      let taken : line_taken before times last (line_text l) ≡ Ok (standing s.tables later (Some s.seq)) =
      taken_by s.told s.snapshot s.removes before s.tables times s.seq last may.told old may.fit may.on was may.in_range may.numbered next in (
        more.0,
        goes-then max (standing before times last) (standing s.tables later (Some s.seq)) more.0 (line_text l ++ 10 ∷ []) (bytes_sent (lines_sent s.tables ss)) 1 (length ss)
            (one_line max before s.tables times later last (Some s.seq) (line_text l) (text_is_one_line l) short taken) more.1
            ∙ ap (goes more.0) (omega arith),
        more.2,
        more.3,
        more.4 ∙ ap (λ base. times_sent (times_after base l) s.tables ss) (times_by s.told s.snapshot s.removes before s.tables s.seq times),
      )

  later_lines : (max : ℕ) (before : TablesView) (last : ℕ) (ss : List Sending) → AreFit before → AreInRange before → GoesOn before last ss → AreShort max (lines_sent before ss)
      → (times : List TaskTimes) → Comes max before times (Some last) ss
  later_lines max before last [] old was on short times = (standing before times (Some last), nothing max (standing before times (Some last)) (omega arith), refl, refl, refl)
  later_lines max before last (s ∷ ss) old was on short times =
      line_first max before times (Some last) s ss old was on.1 (next_number s.snapshot s.removes before s.tables s.seq last on.0) short.0 (later_lines max s.tables s.seq ss on.1.fit on.1.in_range on.2 short.1)

  pub whole : (max : ℕ) (sent : List Sending) → IsUninterrupted sent → AreShort max (lines_sent empty_tables sent) → Comes max empty_tables [] None sent
  whole max [] on short = (empty_start, nothing max empty_start (omega arith), refl, refl, refl)
  whole max (s ∷ ss) on short =
      line_first max empty_tables [] None s ss empty_fit empty_in on.1 (first_number s.snapshot s.removes empty_tables s.tables s.seq on.0) short.0 (later_lines max s.tables s.seq ss on.1.fit on.1.in_range on.2 short.1)

  -- a front has no fault where the whole has none
  pub fronts : (max : ℕ) (sent : List Sending) (n : ℕ) → IsUninterrupted sent → AreShort max (lines_sent empty_tables sent)
      → HasNoFault (meaning max empty_start (take n (bytes_sent (lines_sent empty_tables sent))))
  fronts max sent n on short =
      by (whole max sent on short) (meaning max empty_start (take n bytes)) refl
    where
      bytes : List ℕ
      bytes = bytes_sent (lines_sent empty_tables sent)

      by : Comes max empty_tables [] None sent → (o : Outcome) → meaning max empty_start (take n bytes) ≡ o → HasNoFault o
      by all (goes t k) e = tt
      by all (stops t k fault used) e =
          let same : meaning max empty_start bytes ≡ stops t k fault used =
          ap (meaning max empty_start) (sym (take-append-drop n bytes)) ∙ stops-append max empty_start (take n bytes) (drop n bytes) t k used fault e in
          let both : goes all.0 (length sent) ≡ stops t k fault used = sym all.1 ∙ same in
          absurd (cc)

  -- ---- what a client is fed

  -- all of a stream
  pub fed_whole : (old new : ClientView) (sent : List Sending) (lines : ℕ) → old.start ≡ empty_start → IsUninterrupted sent → AreShort old.max_line (lines_sent empty_tables sent)
      → Took old (bytes_sent (lines_sent empty_tables sent)) lines new
      → (lines ≡ length sent) × (new.start.tables ≡ tables_sent empty_tables sent) × (new.start.times ≡ times_sent [] empty_tables sent)
  fed_whole old new sent lines empty on short took =
      let all : Comes old.max_line empty_tables [] None sent = whole old.max_line sent on short in
      let same : goes all.0 (length sent) ≡ goes new.start lines =
      sym all.1 ∙ ap (λ s. meaning old.max_line s (bytes_sent (lines_sent empty_tables sent))) (sym empty) ∙ took.came in
      let start : all.0 ≡ new.start = (cc) in
      let count : length sent ≡ lines = (cc) in
      (sym count, ap (λ (s : Start). s.tables) (sym start) ∙ all.2, ap (λ (s : Start). s.times) (sym start) ∙ all.4)

  no_stop : (max : ℕ) (sent : List Sending) (n : ℕ) (x : List ℕ) → IsUninterrupted sent → AreShort max (lines_sent empty_tables sent) → x ≡ take n (bytes_sent (lines_sent empty_tables sent))
      → (tables : TablesView) (lines : ℕ) (fault : Fault) (used : ℕ) → meaning max empty_start x ≡ stops tables lines fault used → ⊥
  no_stop max sent n x on short same tables lines fault used e =
      subst HasNoFault (ap (meaning max empty_start) (sym same) ∙ e) (fronts max sent n on short)

  -- a piece of a stream, after a front of it
  pub fed_piece : (first old new : ClientView) (sent : List Sending) (front piece rest : List ℕ) (lines : ℕ) (e : FeedError) → first.start ≡ empty_start → IsUninterrupted sent
      → AreShort first.max_line (lines_sent empty_tables sent) → bytes_sent (lines_sent empty_tables sent) ≡ front ++ (piece ++ rest) → Took first front lines old → old.max_line ≡ first.max_line
      → Stopped old piece e new → e.fault ≡ Memory
  fed_piece first old new sent front piece rest lines e empty on short bytes took limit stopped = by e.fault stopped.by
    where
      max : ℕ
      max = first.max_line

      x : List ℕ
      x = front ++ take e.used piece

      same : x ≡ take (length front + e.used) (bytes_sent (lines_sent empty_tables sent))
      same =
          ap (λ ys. front ++ ys) (sym (take-append-le e.used piece rest stopped.within)) ∙ sym (take-append-add front (piece ++ rest) e.used)
          ∙ ap (take (length front + e.used)) (sym bytes)

      joined : meaning max empty_start x ≡ lines_before lines (length front) (meaning old.max_line old.start (take e.used piece))
      joined =
          ap (λ s. meaning max s x) (sym empty) ∙ meaning-append max first.start old.start front (take e.used piece) lines took.came
          ∙ ap (λ m. lines_before lines (length front) (meaning m old.start (take e.used piece))) (sym limit)

      none : (fault : Fault) → meaning old.max_line old.start (take e.used piece) ≡ stops new.start.tables e.lines fault e.used → ⊥
      none fault h = no_stop max sent (length front + e.used) x on short same new.start.tables (lines + e.lines) fault (length front + e.used) (joined ∙ ap (lines_before lines (length front)) h)

      by : (fault : Fault) → StoppedBy fault (meaning old.max_line old.start (take e.used piece)) e new → fault ≡ Memory
      by Memory h = refl
      by BadJson h = absurd (none BadJson h.0)
      by BadShape h = absurd (none BadShape h.0)
      by (Gap i j) h = absurd (none (Gap i j) h.0)
      by UnknownId h = absurd (none UnknownId h.0)
      by Repeated h = absurd (none Repeated h.0)
      by TooLong h = absurd (none TooLong h.0)
      by Misfit h = absurd (none Misfit h.0)
      by Failed h = absurd (none Failed h.0)
