-- What is noted line by line is what the tables after each line show.
use Rattle.std.proofs.Common.{◌≡◌, ℕ, List, [], ◌∷◌, ◌++◌, Bool, true, false, cond, map, nat_eq, Some, unwrap_or, refl, ap, sym, subst, ◌∙◌, append-nil, append_assoc}
use Rattle.std.specs.Prelude.{fold}
use Rattle.std.specs.Map.{lookup}
use Rattle.std.specs.List.{AllByRecursion, IsDistinct}
use Rattle.std.specs.Option.{option_map_or}
use Rattle.std.proofs.lemmas.Bool.{eq-eqb, eqb-true, ne_eqb, false≢true}
use Rattle.std.proofs.lemmas.List.{map-append}
use Rattle.std.proofs.lemmas.List.Sums.{fold-append}
use Rattle.indexmap.specs.IndexMap.{insert_entry}
use Rattle.tk_stream.specs.Tables.{TablesView, task_id, task_with}
use Rattle.tk_stream.specs.declared.tables.task.Task.{Task}
use Rattle.tk_client.specs.Changes.{Timed}
use Rattle.tk_reading.specs.Shown.{tables_of}
use Rattle.tk_reading.proofs.ShownLemmas.{tables-append}
use Rattle.tk_report.specs.declared.known.Known.{Known}
use Rattle.tk_report.specs.Known.{known_after, known_more, longest_known, unknown}
use Rattle.tk_report.specs.Watched.{Follows, known_at, noted}

other : (m n : ℕ) → nat_eq m n ≡ false → nat_eq n m ≡ false
other m n is = ne_eqb n m (λ e. false≢true (sym is ∙ eq-eqb m n (sym e)))

among : (P : ℕ → Type 0) (ys : List Task) (t : Task) (ts : List Task) → AllByRecursion P (map task_id (ys ++ t ∷ ts)) → P t.info.id
among P [] t ts h = h.0
among P (y ∷ ys) t ts h = among P ys t ts h.1

module _ (now : ℕ) (before : List (ℕ × Known)) where
  -- entries with what is noted of a task more
  abbrev pub with_noted : List (ℕ × Known) → Task → List (ℕ × Known)
  with_noted es t = insert_entry nat_eq es t.info.id (noted now before t).1

  -- a task that comes after others goes last
  last : (acc : List Task) (t : Task) (ts : List Task) → IsDistinct nat_eq (map task_id (acc ++ t ∷ ts))
      → with_noted (map (noted now before) acc) t ≡ map (noted now before) acc ++ noted now before t ∷ []
  unfolding IsDistinct
  last [] t ts h = refl
  last (a ∷ acc) t ts h =
      ap (λ (b : Bool). cond b ((a.info.id, (noted now before t).1) ∷ map (noted now before) acc) (noted now before a ∷ with_noted (map (noted now before) acc) t))
      (other a.info.id t.info.id (among (λ (k : ℕ). nat_eq a.info.id k ≡ false) acc t ts h.0))
      ∙ ap (λ es. noted now before a ∷ es) (last acc t ts h.1)

  pub noted_all : (acc ts : List Task) → IsDistinct nat_eq (map task_id (acc ++ ts)) → fold with_noted (map (noted now before) acc) ts ≡ map (noted now before) (acc ++ ts)
  noted_all acc [] h = sym (ap (map (noted now before)) (append-nil acc))
  noted_all acc (t ∷ ts) h =
      let same = append_assoc acc (t ∷ []) ts in
      ap (λ es. fold with_noted es ts) (last acc t ts h ∙ sym (map-append (noted now before) acc (t ∷ [])))
      ∙ (noted_all (acc ++ t ∷ []) ts (subst (λ l. IsDistinct nat_eq (map task_id l)) (sym same) h) ∙ ap (map (noted now before)) same)

  -- what is noted of a task, by its id
  noted_of : (id : ℕ) (ts : List Task) → known_at (map (noted now before) ts) id
      ≡ option_map_or (λ (t : Task). known_after now (known_at before id) t.row) (task_with id ts) unknown
  noted_of id [] = refl
  noted_of id (t ∷ ts) = by (nat_eq id t.info.id) refl (noted_of id ts)
    where
      by : (b : Bool) → nat_eq id t.info.id ≡ b
          → known_at (map (noted now before) ts) id ≡ option_map_or (λ (x : Task). known_after now (known_at before id) x.row) (task_with id ts) unknown
          → unwrap_or (cond b (Some (noted now before t).1) (lookup (nat_eq id) (map (noted now before) ts))) unknown
          ≡ option_map_or (λ (x : Task). known_after now (known_at before id) x.row) (cond b (Some t) (task_with id ts)) unknown
      by true is rest = ap (λ k. known_after now (known_at before k) t.row) (sym (eqb-true id t.info.id is))
      by false is rest = rest

-- what is noted after a line more
pub follows_more : (shown : List TablesView) (tables : TablesView) (before after : List (ℕ × Known)) → after ≡ map (noted tables.now before) tables.tasks
    → Follows shown before → Follows (shown ++ tables ∷ []) after
follows_more shown tables before after is h = λ id.
    ap (λ es. known_at es id) is
    ∙ (noted_of tables.now before id tables.tasks
    ∙ (ap (λ k. known_more id k tables) (h id)
    ∙ sym (fold-append (known_more id) unknown shown (tables ∷ []))))

-- the same of what is shown after each line
pub follows_seen : (seen : List Timed) (t : Timed) (before after : List (ℕ × Known)) → after ≡ map (noted t.0.now before) t.0.tasks → Follows (tables_of seen) before
    → Follows (tables_of (seen ++ t ∷ [])) after
follows_seen seen t before after is h =
    subst (λ (xs : List TablesView). Follows xs after) (sym (tables-append seen (t ∷ []))) (follows_more (tables_of seen) t.0 before after is h)

-- before the first line
pub follows_none : (es : List (ℕ × Known)) → es ≡ [] → Follows [] es
follows_none es none = λ id. ap (λ e. known_at e id) none

-- the longest polls that are known
pub same_longest : (shown : List TablesView) (es : List (ℕ × Known)) → Follows shown es → (λ id. (known_at es id).longest) ≡ longest_known shown
same_longest shown es h = λ i id. (h id i).longest
