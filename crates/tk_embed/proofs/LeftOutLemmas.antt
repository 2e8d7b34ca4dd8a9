-- A line tells the same where the entries leave out what it would not tell of.
use Rattle.std.proofs.Common.{◌≡◌, ℕ, List, [], ◌∷◌, ◌++◌, Bool, true, false, cond, Option, Some, None, nat_eq, refl, ap, sym, ◌∙◌}
use Rattle.std.specs.Prelude.{map, filter, not, is_none}
use Rattle.std.specs.List.{AllByRecursion}
use Rattle.std.specs.Option.{option_map_or}
use Rattle.std.proofs.lemmas.Bool.{eqb-true, eq-eqb}
use Rattle.tk_stream.specs.Applied.{Kind, task_kind, resource_kind, op_kind, counts_kind, BeginWith, GoOn}
use Rattle.tk_stream.specs.Lines.{is_new, is_told, new_infos, told_stats, line_between, have_same_row, have_same_resource_row, have_same_op_row, task_info, resource_info, op_info, task_stats_of, resource_stats_of, op_stats_of, all_counts}
use Rattle.tk_stream.specs.Retention.{is_due, due_ids, due_of, prune, line_pruned, told_without, task_closed, resource_closed, op_closed}
use Rattle.tk_stream.specs.Rows.{same_counts}
use Rattle.tk_stream.specs.Tables.{TablesView, AreDistinct, task_id, resource_id, op_id, counts_id, item_with, is_among, staying}
use Rattle.tk_stream.proofs.GoneLemmas.{once_kept}
use Rattle.tk_stream.proofs.LinesLemmas.{IsFound, each_found}
use Rattle.tk_stream.proofs.PruneLemmas.{pruned_line}
use Rattle.tk_stream.proofs.RowsLemmas.{agrees, resource_agrees, op_agrees, all_counts_agree}
use Rattle.tk_embed.specs.LeftOut.{LeftOut, leaving_out, StayTheSame, AreUnchanged, StayOn, AreStaying}

-- ---- of one kind of item

module _ {Item : Type 0} (id_of : Item → ℕ) (same : Item → Item → Bool) (left : List ℕ) where
  -- an item that isn't left out is found as before
  found : (id : ℕ) → is_among left id ≡ false → (xs : List Item) → item_with id_of id (staying id_of left xs) ≡ item_with id_of id xs
  found id kept [] = refl
  found id kept (x ∷ xs) = by (is_among left (id_of x)) refl (nat_eq id (id_of x)) refl (found id kept xs)
    where
      by : (out : Bool) → is_among left (id_of x) ≡ out → (here : Bool) → nat_eq id (id_of x) ≡ here
          → item_with id_of id (staying id_of left xs) ≡ item_with id_of id xs
          → item_with id_of id (cond (not out) (x ∷ staying id_of left xs) (staying id_of left xs)) ≡ cond here (Some x) (item_with id_of id xs)
      by true e true f rest = absurd (cc (ap (is_among left) (eqb-true id (id_of x) f), e, kept))
      by true e false f rest = rest
      by false e true f rest = ap (λ b. cond b (Some x) (item_with id_of id (staying id_of left xs))) f
      by false e false f rest = ap (λ b. cond b (Some x) (item_with id_of id (staying id_of left xs))) f ∙ rest

  -- and is told of, or new, as before
  told_as_before : (old : List Item) (x : Item) → is_among left (id_of x) ≡ false → is_told id_of same (staying id_of left old) x ≡ is_told id_of same old x
  told_as_before old x kept = ap (λ o. option_map_or (λ before. not (same before x)) o true) (found (id_of x) kept old)

  new_as_before : (old : List Item) (x : Item) → is_among left (id_of x) ≡ false → is_new id_of (staying id_of left old) x ≡ is_new id_of old x
  new_as_before old x kept = ap is_none (found (id_of x) kept old)

  -- what is not told of isn't new
  not_new : (o : Option Item) (x : Item) → option_map_or (λ before. not (same before x)) o true ≡ false → is_none o ≡ false
  not_new None x e = absurd (cc)
  not_new (Some before) x e = refl

  pub same_infos : {Info : Type 0} (info_of : Item → Info) (old xs : List Item) → StayTheSame id_of same left old xs
      → new_infos id_of info_of (staying id_of left old) (staying id_of left xs) ≡ new_infos id_of info_of old xs
  same_infos info_of old [] stay = refl
  same_infos info_of old (x ∷ xs) stay = by (is_among left (id_of x)) refl (is_new id_of old x) refl (same_infos info_of old xs stay.1)
    where
      by : (out : Bool) → is_among left (id_of x) ≡ out → (new : Bool) → is_new id_of old x ≡ new
          → new_infos id_of info_of (staying id_of left old) (staying id_of left xs) ≡ new_infos id_of info_of old xs
          → new_infos id_of info_of (staying id_of left old) (cond (not out) (x ∷ staying id_of left xs) (staying id_of left xs)) ≡ map info_of (cond new (x ∷ filter (is_new id_of old) xs) (filter (is_new id_of old) xs))
      by true e true f rest = absurd (cc (not_new (item_with id_of (id_of x) old) x (stay.0 e), f))
      by true e false f rest = rest
      by false e true f rest =
          ap (λ b. map info_of (cond b (x ∷ filter (is_new id_of (staying id_of left old)) (staying id_of left xs)) (filter (is_new id_of (staying id_of left old)) (staying id_of left xs)))) (new_as_before old x e ∙ f)
          ∙ ap (λ zs. info_of x ∷ zs) rest
      by false e false f rest =
          ap (λ b. map info_of (cond b (x ∷ filter (is_new id_of (staying id_of left old)) (staying id_of left xs)) (filter (is_new id_of (staying id_of left old)) (staying id_of left xs)))) (new_as_before old x e ∙ f)
          ∙ rest

  pub same_stats : {Stats : Type 0} (stats_of : Item → Stats) (old xs : List Item) → StayTheSame id_of same left old xs
      → told_stats id_of same stats_of (staying id_of left old) (staying id_of left xs) ≡ told_stats id_of same stats_of old xs
  same_stats stats_of old [] stay = refl
  same_stats stats_of old (x ∷ xs) stay = by (is_among left (id_of x)) refl (is_told id_of same old x) refl (same_stats stats_of old xs stay.1)
    where
      by : (out : Bool) → is_among left (id_of x) ≡ out → (told : Bool) → is_told id_of same old x ≡ told
          → told_stats id_of same stats_of (staying id_of left old) (staying id_of left xs) ≡ told_stats id_of same stats_of old xs
          → told_stats id_of same stats_of (staying id_of left old) (cond (not out) (x ∷ staying id_of left xs) (staying id_of left xs)) ≡ map stats_of (cond told (x ∷ filter (is_told id_of same old) xs) (filter (is_told id_of same old) xs))
      by true e true f rest = absurd (cc (stay.0 e, f))
      by true e false f rest = rest
      by false e true f rest =
          ap (λ b. map stats_of (cond b (x ∷ filter (is_told id_of same (staying id_of left old)) (staying id_of left xs)) (filter (is_told id_of same (staying id_of left old)) (staying id_of left xs)))) (told_as_before old x e ∙ f)
          ∙ ap (λ zs. stats_of x ∷ zs) rest
      by false e false f rest =
          ap (λ b. map stats_of (cond b (x ∷ filter (is_told id_of same (staying id_of left old)) (staying id_of left xs)) (filter (is_told id_of same (staying id_of left old)) (staying id_of left xs)))) (told_as_before old x e ∙ f)
          ∙ rest

-- what is due where some that stay are left out
same_due : {Item : Type 0} (id_of : Item → ℕ) (closed_of : Item → Option ℕ) (retention now : ℕ) (left : List ℕ) (xs : List Item) → StayOn id_of closed_of retention now left xs
    → due_ids id_of closed_of retention now (staying id_of left xs) ≡ due_ids id_of closed_of retention now xs
same_due id_of closed_of retention now left [] stay = refl
same_due {Item} id_of closed_of retention now left (x ∷ xs) stay = by (is_among left (id_of x)) refl (is_due retention now (closed_of x)) refl (same_due id_of closed_of retention now left xs stay.1)
  where
    due : Item → Bool
    due y = is_due retention now (closed_of y)

    by : (out : Bool) → is_among left (id_of x) ≡ out → (leaves : Bool) → is_due retention now (closed_of x) ≡ leaves
        → due_ids id_of closed_of retention now (staying id_of left xs) ≡ due_ids id_of closed_of retention now xs
        → due_ids id_of closed_of retention now (cond (not out) (x ∷ staying id_of left xs) (staying id_of left xs)) ≡ map id_of (cond leaves (x ∷ filter (λ y. is_due retention now (closed_of y)) xs) (filter (λ y. is_due retention now (closed_of y)) xs))
    by true e true f rest = absurd (cc (stay.0 e, f))
    by true e false f rest = rest
    by false e true f rest =
        ap (λ b. map id_of (cond b (x ∷ filter (λ y. is_due retention now (closed_of y)) (staying id_of left xs)) (filter (λ y. is_due retention now (closed_of y)) (staying id_of left xs)))) f
        ∙ ap (λ zs. id_of x ∷ zs) rest
    by false e false f rest =
        ap (λ b. map id_of (cond b (x ∷ filter (λ y. is_due retention now (closed_of y)) (staying id_of left xs)) (filter (λ y. is_due retention now (closed_of y)) (staying id_of left xs)))) f
        ∙ rest

-- ---- lines

pub same_line : (left : LeftOut) (old new : TablesView) (seq : ℕ) → AreUnchanged left old new → line_between (leaving_out left old) (leaving_out left new) seq ≡ line_between old new seq
same_line left old new seq stay = λ i. record {
  dropped = new.dropped;
  gone = None;
  new_ops = same_infos op_id have_same_op_row left.ops op_info old.ops new.ops stay.ops i;
  new_resources = same_infos resource_id have_same_resource_row left.resources resource_info old.resources new.resources stay.resources i;
  new_tasks = same_infos task_id have_same_row left.tasks task_info old.tasks new.tasks stay.tasks i;
  now = new.now;
  op_stats = same_stats op_id have_same_op_row left.ops op_stats_of old.ops new.ops stay.ops i;
  poll_counts = same_stats counts_id same_counts left.counts all_counts old.counts new.counts stay.counts i;
  resource_stats = same_stats resource_id have_same_resource_row left.resources resource_stats_of old.resources new.resources stay.resources i;
  seq = seq;
  snapshot = false;
  task_stats = same_stats task_id have_same_row left.tasks task_stats_of old.tasks new.tasks stay.tasks i;
  task_times = None;
}

-- ---- lines of what leaves

module _ {Item : Type 0} (id_of : Item → ℕ) (same : Item → Item → Bool) (agrees : (x : Item) → same x x ≡ true) (left : List ℕ) where
  -- of items that stand once, none is told of beside themselves
  stays_the_same : (old xs : List Item) → AllByRecursion (IsFound id_of old) xs → StayTheSame id_of same left old xs
  stays_the_same old [] there = tt
  stays_the_same old (x ∷ xs) there =
      ((λ out. ap (λ o. option_map_or (λ before. not (same before x)) o true) there.0 ∙ ap not (agrees x)), stays_the_same old xs there.1)

unchanged : (left : LeftOut) (told : TablesView) (now : ℕ) → AreDistinct told → AreUnchanged left told (record told { now = now })
unchanged left told now once = record {
  tasks = stays_the_same task_id have_same_row (λ t. agrees t.row) left.tasks told.tasks told.tasks (each_found task_id told.tasks once.tasks);
  resources = stays_the_same resource_id have_same_resource_row (λ r. resource_agrees r.row) left.resources told.resources told.resources (each_found resource_id told.resources once.resources);
  ops = stays_the_same op_id have_same_op_row (λ o. op_agrees o.row) left.ops told.ops told.ops (each_found op_id told.ops once.ops);
  counts = stays_the_same counts_id same_counts all_counts_agree left.counts told.counts told.counts (each_found counts_id told.counts once.counts);
}

-- items go on from themselves
goes_on : {Item Info Stats : Type 0} (k : Kind Item Info Stats) (xs : List Item) → BeginWith k xs xs
goes_on k [] = tt
goes_on k (x ∷ xs) = (refl, goes_on k xs)

on_from : (told : TablesView) (now : ℕ) → GoOn told (record told { now = now })
on_from told now = record {
  tasks = goes_on task_kind told.tasks;
  resources = goes_on resource_kind told.resources;
  ops = goes_on op_kind told.ops;
  counts = goes_on counts_kind told.counts;
}

once_left : (left : LeftOut) (told : TablesView) → AreDistinct told → AreDistinct (leaving_out left told)
once_left left told once = record {
  tasks = once_kept task_id (λ t. not (is_among left.tasks (task_id t))) told.tasks once.tasks;
  resources = once_kept resource_id (λ r. not (is_among left.resources (resource_id r))) told.resources once.resources;
  ops = once_kept op_id (λ o. not (is_among left.ops (op_id o))) told.ops once.ops;
  counts = once_kept counts_id (λ c. not (is_among left.counts (counts_id c))) told.counts once.counts;
}

same_leaving : (left : LeftOut) (told : TablesView) (now retention : ℕ) → AreStaying left told now retention → due_of (leaving_out left told) now retention ≡ due_of told now retention
same_leaving left told now retention stay = λ i. record {
  ops = same_due op_id op_closed retention now left.ops told.ops stay.ops i;
  resources = same_due resource_id resource_closed retention now left.resources told.resources stay.resources i;
  tasks = same_due task_id task_closed retention now left.tasks told.tasks stay.tasks i;
}

pub same_gone_line : (left : LeftOut) (told : TablesView) (now retention seq : ℕ) → AreDistinct told → AreStaying left told now retention
    → line_pruned (leaving_out left told) (prune (record (leaving_out left told) { now = now }) (leaving_out left told) now retention) seq
    ≡ line_pruned told (prune (record told { now = now }) told now retention) seq
same_gone_line left told now retention seq once stay =
    let less : TablesView = leaving_out left told in
    sym (pruned_line less (record less { now = now }) now retention seq (once_left left told once) (on_from less now))
    ∙ ap (λ gone. told_without gone (line_between less (record less { now = now }) seq)) (same_leaving left told now retention stay)
    ∙ ap (told_without (due_of told now retention)) (same_line left told (record told { now = now }) seq (unchanged left told now once))
    ∙ pruned_line told (record told { now = now }) now retention seq once (on_from told now)
