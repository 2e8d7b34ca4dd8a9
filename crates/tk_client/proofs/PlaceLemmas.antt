-- The tasks that can be warned of are those that are warned of.
use Rattle.std.proofs.Common.{◌≡◌, ℕ, suc, ◌-◌, ◌*◌, ◌≤◌, List, [], ◌∷◌, ◌++◌, length, Bool, true, false, cond, nat_lt, nat_le, nat_eq, Some, slice_get, refl, ap, ap₂, sym, ◌∙◌, append_assoc, arith}
use Rattle.std.specs.Prelude.{flat_map, ◌&&◌, ◌||◌}
use Rattle.std.specs.Option.{option_map_or}
use Rattle.std.proofs.lemmas.Bool.{or_parts, le-ltb}
use Rattle.tk_core.specs.declared.task.row.TaskRow.{TaskRow}
use Rattle.tk_stream.specs.declared.tables.task.Task.{Task}
use Rattle.tk_client.specs.declared.warning.Warning.{Warning}
use Rattle.tk_client.specs.declared.warning.WarningKind.TheVariants.{SelfWakes, LostWaker, NeverYielded}
use Rattle.tk_client.specs.Warnings.{LintsView, wakes_itself, has_lost_waker, has_never_yielded, is_spawn, warning_if, warnings_of}
use Rattle.tk_client.specs.Candidates.{can_hold, can_warn, places_by, places_of}

-- without a self-wake there is no share of them that is too large
no-share : (percent : ℕ) (x : TaskRow) → (nat_lt 0 x.wakes && nat_lt 0 x.self_wakes) ≡ false → wakes_itself percent x ≡ false
no-share percent x h = by (nat_lt 0 x.wakes) (nat_lt 0 x.self_wakes) refl h
  where
    by : (a b : Bool) → nat_lt 0 x.self_wakes ≡ b → (a && b) ≡ false → (a && nat_lt (percent * x.wakes) (100 * x.self_wakes)) ≡ false
    by false b e g = refl
    by true true e g = absurd (cc)
    by true false e g =
        let none : x.self_wakes ≤ 0 = grind arith in
        le-ltb (percent * x.wakes) (100 * x.self_wakes) (omega arith)

no-yield : (limit now : ℕ) (x : TaskRow) → (x.polling && nat_eq x.polls 1) ≡ false → has_never_yielded limit now x ≡ false
no-yield limit now x h = by x.polling (nat_eq x.polls 1) h
  where
    by : (a b : Bool) → (a && b) ≡ false → (a && (b && option_map_or (λ started. nat_le limit (now - started)) x.last_started false)) ≡ false
    by false b e = refl
    by true false e = refl
    by true true e = absurd (cc)

-- a task that can't be warned of isn't
quiet : (lints : LintsView) (now : ℕ) (t : Task) → can_warn t ≡ false → warnings_of lints now t ≡ []
quiet lints now t h = by (is_spawn t.info.kind) h
  where
    by : (b : Bool) → (b && can_hold t.row) ≡ false
        → cond b (warning_if (wakes_itself lints.self_wake_percent t.row) t.info.id SelfWakes
        ++ (warning_if (has_lost_waker t.row) t.info.id LostWaker
        ++ warning_if (has_never_yielded lints.never_yielded_ns now t.row) t.info.id NeverYielded)) [] ≡ []
    by false e = refl
    by true e =
        let p = or_parts (nat_lt 0 t.row.wakes && nat_lt 0 t.row.self_wakes) (has_lost_waker t.row || (t.row.polling && nat_eq t.row.polls 1)) e in
        let q = or_parts (has_lost_waker t.row) (t.row.polling && nat_eq t.row.polls 1) p.1 in
        ap₂ (λ a b. warning_if a t.info.id SelfWakes ++ (warning_if (has_lost_waker t.row) t.info.id LostWaker ++ warning_if b t.info.id NeverYielded))
        (no-share lints.self_wake_percent t.row p.0) (no-yield lints.never_yielded_ns now t.row q.1)
        ∙ ap (λ b. warning_if b t.info.id LostWaker ++ []) q.0

-- the warnings of the listed tasks are those of all
module _ (lints : LintsView) (now : ℕ) where
  abbrev at : List Task → ℕ → List Warning
  at tasks i = option_map_or (warnings_of lints now) (slice_get tasks i) []

  -- after some tasks
  listed-from : (front tasks all : List Task) → all ≡ front ++ tasks → flat_map (at all) (places_by can_warn (length front) tasks) ≡ flat_map (warnings_of lints now) tasks
  listed-from front [] all e = refl
  listed-from front (t ∷ ts) all e =
      by (can_warn t) refl (ap (λ n. flat_map (at all) (places_by can_warn n ts)) (sym (long front)) ∙ listed-from (front ++ t ∷ []) ts all (e ∙ sym (append_assoc front (t ∷ []) ts)))
    where
      long : (xs : List Task) → length (xs ++ t ∷ []) ≡ suc (length xs)
      long [] = refl
      long (x ∷ xs) = ap suc (long xs)

      here : (xs : List Task) → slice_get (xs ++ t ∷ ts) (length xs) ≡ Some t
      here [] = refl
      here (x ∷ xs) = here xs

      by : (b : Bool) → can_warn t ≡ b → flat_map (at all) (places_by can_warn (suc (length front)) ts) ≡ flat_map (warnings_of lints now) ts
          → flat_map (at all) (cond b (length front ∷ places_by can_warn (suc (length front)) ts) (places_by can_warn (suc (length front)) ts)) ≡ warnings_of lints now t ++ flat_map (warnings_of lints now) ts
      by true is rest = ap₂ (λ xs ys. xs ++ ys) (ap (λ ts'. at ts' (length front)) e ∙ ap (λ o. option_map_or (warnings_of lints now) o []) (here front)) rest
      by false is rest = rest ∙ ap (λ xs. xs ++ flat_map (warnings_of lints now) ts) (sym (quiet lints now t is))

  pub listed : (tasks : List Task) → flat_map (at tasks) (places_of tasks) ≡ flat_map (warnings_of lints now) tasks
  listed tasks = listed-from [] tasks tasks refl
