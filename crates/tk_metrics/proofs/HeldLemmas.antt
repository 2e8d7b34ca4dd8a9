-- Nothing that is charged falls.
use Rattle.std.proofs.Common.{◌≡◌, ◌≤◌, ℕ, ◌+◌, ◌-◌, ◌^◌, List, [], ◌∷◌, ◌++◌, Bool, true, false, cond, subst, sym, arith}
use Rattle.std.specs.Prelude.{fold, ◌==◌}
use Rattle.std.specs.Str.{bytes_eq}
use Rattle.std.proofs.lemmas.List.Sums.{fold-append}
use Rattle.tk_core.specs.Lists.{capped}
use Rattle.tk_odd.specs.Charging.{charge_of}
use Rattle.tk_odd.specs.Diagnosis.{Places, Standing, after_line, begins, ends, goes_on, held_in, is_first, is_over, nothing, opens, plus_held, standing_of, with_one}
use Rattle.tk_odd.specs.Members.{Member, looked_at, moved_of}
use Rattle.tk_odd.specs.Steps.{stood_still}
use Rattle.tk_odd.specs.declared.free.Free.{Free}
use Rattle.tk_odd.specs.declared.held.Held.{Held}
use Rattle.tk_odd.specs.declared.limits.Limits.{Limits}
use Rattle.tk_odd.specs.declared.moved.Moved.{Moved}
use Rattle.tk_series.specs.Series.{with_value}
use Rattle.tk_series.specs.Totals.{AreWithin, shown_at}
use Rattle.tk_stream.specs.Tables.{TablesView}
use Rattle.tk_metrics.specs.Rising.{NoneFalls, held_after, shares_after}

-- the most that a sum comes to
abbrev most : ℕ
most = 2 ^ 64 - 1

abbrev charged : Held → ℕ
charged h = h.charged

-- ---- one value more

with_fits : (l : List ℕ) (v : Held) (xs : List (List ℕ × Held)) → v.charged ≤ most → AreWithin most charged xs → AreWithin most charged (with_value plus_held l v xs)
with_fits l v [] fits all = (fits, tt)
with_fits l v (x ∷ xs) fits all = by (bytes_eq l x.0) (with_fits l v xs fits all.1)
  where
    by : (b : Bool) → AreWithin most charged (with_value plus_held l v xs) → AreWithin most charged (cond b ((x.0, plus_held x.1 v) ∷ xs) (x ∷ with_value plus_held l v xs))
    by true rest = (omega arith, all.1)
    by false rest = (all.0, rest)

with_more : (place l : List ℕ) (v : Held) (xs : List (List ℕ × Held)) → AreWithin most charged xs → shown_at charged place xs ≤ shown_at charged place (with_value plus_held l v xs)
with_more place l v [] all = omega arith
with_more place l v (x ∷ xs) all = by (bytes_eq l x.0) (with_more place l v xs all.1)
  where
    added : (h : Bool) → cond h x.1.charged (shown_at charged place xs) ≤ cond h (capped (x.1.charged + v.charged)) (shown_at charged place xs)
    added true = omega (arith, all.0)
    added false = omega arith

    kept : (h : Bool) → shown_at charged place xs ≤ shown_at charged place (with_value plus_held l v xs)
        → cond h x.1.charged (shown_at charged place xs) ≤ cond h x.1.charged (shown_at charged place (with_value plus_held l v xs))
    kept true rest = omega arith
    kept false rest = rest

    by : (b : Bool) → shown_at charged place xs ≤ shown_at charged place (with_value plus_held l v xs)
        → shown_at charged place (x ∷ xs) ≤ shown_at charged place (cond b ((x.0, plus_held x.1 v) ∷ xs) (x ∷ with_value plus_held l v xs))
    by true rest = added (bytes_eq place x.0)
    by false rest = kept (bytes_eq place x.0) rest

-- ---- a step

module _ (long : ℕ) (free : Free) (from to : ℕ) (moved : List Moved) where
  abbrev walk : List Member → Places → Places
  walk xs p = fold (with_one long free from to moved) p xs

  walk_fits : (xs : List Member) (p : Places) → AreWithin most charged p.0 → AreWithin most charged (walk xs p).0
  walk_fits [] p all = all
  walk_fits (x ∷ xs) (ps, gs) all =
      walk_fits xs (with_one long free from to moved (ps, gs) x)
      (with_fits x.1 (held_in from to (capped (charge_of long (to - from) to moved x.2)) (stood_still long free moved x.2) (is_first gs (capped (charge_of long (to - from) to moved x.2)) x.0) x.2) ps (omega arith) all)

  walk_more : (place : List ℕ) (xs : List Member) (p : Places) → AreWithin most charged p.0 → shown_at charged place p.0 ≤ shown_at charged place (walk xs p).0
  walk_more place [] p all = omega arith
  walk_more place (x ∷ xs) (ps, gs) all =
      let v = held_in from to (capped (charge_of long (to - from) to moved x.2)) (stood_still long free moved x.2) (is_first gs (capped (charge_of long (to - from) to moved x.2)) x.0) x.2 in
      let one = with_more place x.1 v ps all in
      let rest = walk_more place xs (with_one long free from to moved (ps, gs) x) (with_fits x.1 v ps (omega arith) all) in
      omega (arith, one, rest)

-- ---- line by line

-- no sum is above the most
record Fits (d : Standing) : Type 0 where
  places : AreWithin most charged d.places.0
  charged : d.shares.charged ≤ most
  queued : d.shares.queued ≤ most
  nobody : d.shares.nobody ≤ most

module _ (limits : Limits) (d : Standing) (tables : TablesView) (fits : Fits d) where
  abbrev ended : Standing
  ended = begins (ends limits (goes_on d tables) tables) tables

  ended_fits : Fits ended
  ended_fits =
      let e = goes_on d tables in
      record {
        places = walk_fits limits.long e.free e.first.moment tables.now (moved_of e.members) (looked_at e.members) e.places fits.places;
        charged = omega arith;
        queued = omega arith;
        nobody = omega arith;
      }

  line_fits : Fits (after_line limits d tables)
  line_fits = by (d.lines == 0) (is_over limits d tables)
    where
      by : (b c : Bool) → Fits (cond b (opens d tables) (cond c ended (goes_on d tables)))
      by true c = record { places = fits.places; charged = fits.charged; queued = fits.queued; nobody = fits.nobody }
      by false true = ended_fits
      by false false = record { places = fits.places; charged = fits.charged; queued = fits.queued; nobody = fits.nobody }

  line_more : (place : List ℕ) → shown_at charged place d.places.0 ≤ shown_at charged place (after_line limits d tables).places.0
  line_more place = by (d.lines == 0) (is_over limits d tables)
    where
      by : (b c : Bool) → shown_at charged place d.places.0 ≤ shown_at charged place (cond b (opens d tables) (cond c ended (goes_on d tables))).places.0
      by true c = omega arith
      by false true =
          let e = goes_on d tables in
          walk_more limits.long e.free e.first.moment tables.now (moved_of e.members) place (looked_at e.members) e.places fits.places
      by false false = omega arith

  line_shares : NoneFalls d.shares (after_line limits d tables).shares
  line_shares = by (d.lines == 0) (is_over limits d tables)
    where
      by : (b c : Bool) → NoneFalls d.shares (cond b (opens d tables) (cond c ended (goes_on d tables))).shares
      by true c = record { charged = omega arith; queued = omega arith; nobody = omega arith }
      by false true = record { charged = omega (arith, fits.charged); queued = omega (arith, fits.queued); nobody = omega (arith, fits.nobody) }
      by false false = record { charged = omega arith; queued = omega arith; nobody = omega arith }

fits_on : (limits : Limits) (shown : List TablesView) (d : Standing) → Fits d → Fits (fold (after_line limits) d shown)
fits_on limits [] d fits = fits
fits_on limits (t ∷ shown) d fits = fits_on limits shown (after_line limits d t) (line_fits limits d t fits)

stands_within : (limits : Limits) (shown : List TablesView) → Fits (standing_of limits shown)
unfolding standing_of
stands_within limits shown = fits_on limits shown nothing (record { places = tt; charged = omega arith; queued = omega arith; nobody = omega arith })

stands_more : (limits : Limits) (shown : List TablesView) (tables : TablesView) → standing_of limits (shown ++ tables ∷ []) ≡ after_line limits (standing_of limits shown) tables
unfolding standing_of
stands_more limits shown tables = fold-append (after_line limits) nothing shown (tables ∷ [])

pub held_rises : (limits : Limits) (place : List ℕ) (shown : List TablesView) (tables : TablesView) → held_after limits place shown ≤ held_after limits place (shown ++ tables ∷ [])
held_rises limits place shown tables =
    subst (λ (d : Standing). held_after limits place shown ≤ shown_at charged place d.places.0) (sym (stands_more limits shown tables))
    (line_more limits (standing_of limits shown) tables (stands_within limits shown) place)

pub shares_rise : (limits : Limits) (shown : List TablesView) (tables : TablesView) → NoneFalls (shares_after limits shown) (shares_after limits (shown ++ tables ∷ []))
shares_rise limits shown tables =
    subst (λ (d : Standing). NoneFalls (shares_after limits shown) d.shares) (sym (stands_more limits shown tables))
    (line_shares limits (standing_of limits shown) tables (stands_within limits shown))
