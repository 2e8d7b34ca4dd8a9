-- What stands after one line more.
use Rattle.std.proofs.Common.{◌≡◌, ℕ, List, [], ◌∷◌, ◌++◌, Bool, true, false, cond, nat_eq, IfOk, OnOk, Result, Ok, Err, refl, ap, ap₂, sym, subst, ◌∙◌}
use Rattle.std.proofs.lemmas.Bool.{eq-eqb, eqb-true}
use Rattle.std.proofs.lemmas.List.Sums.{fold-append}
use Rattle.tk_reading.specs.Shown.{last_shown}
use Rattle.tk_reading.proofs.ShownLemmas.{last_more}
use Rattle.tk_stream.specs.Tables.{TablesView, empty_tables}
use Rattle.tk_odd.specs.Diagnosis.{Standing, after_line, begins, ends, goes_on, is_over, nothing, opens, standing_of}
use Rattle.tk_odd.specs.declared.diagnosis.Diagnosis.{Diagnosis}
use Rattle.tk_odd.specs.Inner.{Follows, Goes, standing_in}
use Rattle.tk_odd.specs.Keeping.{Keeps}
use Rattle.tk_odd.specs.declared.limits.Limits.{Limits}
use Rattle.tk_odd.specs.declared.rows.Rows.{Rows}

stands_more : (limits : Limits) (shown : List TablesView) (tables : TablesView)
    → standing_of limits (shown ++ tables ∷ []) ≡ after_line limits (standing_of limits shown) tables
unfolding standing_of
stands_more limits shown tables = fold-append (after_line limits) nothing shown (tables ∷ [])

stands_first : (limits : Limits) → standing_of limits [] ≡ nothing
unfolding standing_of
stands_first limits = refl

-- what has seen no line
pub follows_none : (d : Diagnosis) → standing_in empty_tables d ≡ nothing → Keeps empty_tables d.rows → Follows [] d
follows_none d h k = record { standing = h ∙ sym (stands_first d.limits); rows = k }

stands_one : (limits : Limits) (tables : TablesView) → standing_of limits (tables ∷ []) ≡ opens nothing tables
unfolding standing_of
stands_one limits tables = refl

-- what was over, and has seen one line since
pub follows_first : (before tables : TablesView) (old new : Diagnosis) → standing_in empty_tables old ≡ nothing → Goes opens before tables old new → Follows (tables ∷ []) new
follows_first before tables old new none goes =
    record { standing = goes.standing ∙ ap (λ (d : Standing). opens d tables) none ∙ sym (stands_one new.limits tables); rows = goes.rows }

-- ---- a line more, case by case

-- what stands, where the last line led to these tables
abbrev led_to : TablesView → Standing → Standing
led_to tables d = record d { before = tables }

pub on_ok : {E : Type 0} (A B : Type 0) (r : Result (Unit {0}) E) → (A → B) → OnOk r A → OnOk r B
on_ok A B (Ok done) f a = f a
on_ok A B (Err e) f a = tt

pub both_ok : {E : Type 0} (A B : Type 0) (r : Result (Unit {0}) E) → OnOk r A → B → OnOk r (A × B)
both_ok A B (Ok done) a b = (a, b)
both_ok A B (Err e) a b = tt

pub three_ok : {E : Type 0} (A B C : Type 0) (r : Result (Unit {0}) E) → OnOk r A → B → C → OnOk r (A × B × C)
three_ok A B C (Ok done) a b c = (a, b, c)
three_ok A B C (Err e) a b c = tt

not-none : (n : ℕ) → (n ≡ 0 → ⊥) → nat_eq n 0 ≡ false
not-none n some = by (nat_eq n 0) refl
  where
    by : (b : Bool) → nat_eq n 0 ≡ b → b ≡ false
    by true e = absurd (some (eqb-true n 0 e))
    by false e = refl

pub line_opens : (limits : Limits) (before tables : TablesView) (old new : Diagnosis) → old.lines ≡ 0 → Goes opens before tables old new
    → Goes (after_line limits) before tables old new
line_opens limits before tables old new none goes =
    let d = standing_in before old in
    record {
      standing = goes.standing ∙ sym (ap (λ b. cond b (opens d tables) (cond (is_over limits d tables) (begins (ends limits (goes_on d tables) tables) tables) (goes_on d tables))) (eq-eqb old.lines 0 none));
      rows = goes.rows;
    }

pub line_goes_on : (limits : Limits) (before tables : TablesView) (old new : Diagnosis) → (old.lines ≡ 0 → ⊥) → is_over limits (standing_in before old) tables ≡ false
    → Goes goes_on before tables old new → Goes (after_line limits) before tables old new
line_goes_on limits before tables old new some goes_yet goes =
    let d = standing_in before old in
    record {
      standing =
          goes.standing
          ∙ sym (ap₂ (λ b over. cond b (opens d tables) (cond over (begins (ends limits (goes_on d tables) tables) tables) (goes_on d tables))) (not-none old.lines some) goes_yet);
      rows = goes.rows;
    }

pub line_ends : (limits : Limits) (before tables : TablesView) (old mid over new : Diagnosis) → (old.lines ≡ 0 → ⊥) → is_over limits (standing_in before old) tables ≡ true
    → Goes goes_on before tables old mid → standing_in empty_tables over ≡ ends limits (standing_in empty_tables mid) tables → over.rows ≡ mid.rows
    → ((last : TablesView) → standing_in last new ≡ begins (standing_in last over) tables) → new.rows ≡ over.rows → Goes (after_line limits) before tables old new
line_ends limits before tables old mid over new some is goes ended kept begun stays =
    let d = standing_in before old in
    record {
      standing =
          begun tables
          ∙ ap (λ (s : Standing). begins (led_to tables s) tables) ended
          ∙ ap (λ (s : Standing). begins (ends limits s tables) tables) goes.standing
          ∙ sym (ap₂ (λ b c. cond b (opens d tables) (cond c (begins (ends limits (goes_on d tables) tables) tables) (goes_on d tables))) (not-none old.lines some) is);
      rows = subst (λ (r : Rows). Keeps tables r) (sym (stays ∙ kept)) goes.rows;
    }

-- what has seen one line more
pub follows_more : (shown : List TablesView) (tables : TablesView) (old new : Diagnosis) → new.limits ≡ old.limits → Follows shown old
    → Goes (after_line old.limits) (last_shown empty_tables shown) tables old new → Follows (shown ++ tables ∷ []) new
follows_more shown tables old new limits h goes =
    let last : tables ≡ last_shown empty_tables (shown ++ tables ∷ []) = sym (last_more empty_tables shown tables) in
    record {
      standing =
          ap (λ (t : TablesView). standing_in t new) (sym last)
          ∙ goes.standing
          ∙ ap (λ (d : Standing). after_line old.limits d tables) h.standing
          ∙ sym (stands_more old.limits shown tables)
          ∙ ap (λ (l : Limits). standing_of l (shown ++ tables ∷ [])) (sym limits);
      rows = subst (λ (t : TablesView). Keeps t new.rows) last goes.rows;
    }
