-- What one more change makes of a value.
use Rattle.std.proofs.Common.{◌≡◌, ℕ, suc, ◌+◌, ◌-◌, ◌≤◌, cond, List, [], ◌∷◌, ◌++◌, Option, Some, None, refl, sym, ap, ◌∙◌, inl, inr, zero-add, eq-eqb, arith}
use Rattle.std.specs.Prelude.{sum_by, unwrap_or, nat_le, ◌==◌, ℤ, pos, ◌+ℤ◌, ◌-ℤ◌}
use Rattle.std.proofs.lemmas.Int.{ints}
use Rattle.std.proofs.lemmas.Bool.{cases_eq, ne_eqb}
use Rattle.std.specs.List.{after_last, filter_map}
use Rattle.std.specs.List.{cons_option, slice_get}
use Rattle.std.specs.Option.{option_map}
use Rattle.std.proofs.Math.ListN.{set}
use Rattle.std.proofs.Common.{zero, add-zero}
use Rattle.std.proofs.lemmas.List.{append-nil}
use Rattle.std.proofs.lemmas.List.Elements.{filter_map-append}
use Rattle.std.proofs.lemmas.Bool.Decides.{nat_tests}
use Rattle.std.proofs.lemmas.List.Sums.{sum_by_push, fold-append}
use Rattle.tk_core.specs.Lists.{last_of}
use Rattle.tk_core.specs.Attributes.{added, taken, added_signed, taken_signed, sum_signed, set_by, is_override, moved, value_of, values_from, refused_change, refused_by}
use Rattle.tk_core.specs.Laws.Pushed.{last_of_push, after_last_push}
use Rattle.tk_ids.specs.declared.attr.AttrValue.{AttrValue}
use Rattle.tk_ids.specs.declared.attr.AttrValue.TheVariants as values
use Rattle.tk_core.specs.declared.attrs.AttrOp.{AttrOp}
use Rattle.tk_core.specs.declared.attrs.AttrOp.TheVariants.{Add, Sub, Override}
use Rattle.tk_core.specs.declared.reply.Refusal.TheVariants.{OutOfRange}

-- a value after a change that it doesn't refuse
abbrev pub plus : AttrValue → AttrValue → AttrValue
plus (values.U64 n) (values.U64 by) = values.U64 (n + by)
plus (values.I64 n) (values.I64 by) = values.I64 (n +ℤ by)
plus value _ = value

abbrev pub minus : AttrValue → AttrValue → AttrValue
minus (values.U64 n) (values.U64 by) = values.U64 (n - by)
minus (values.I64 n) (values.I64 by) = values.I64 (n -ℤ by)
minus value _ = value

abbrev pub changed_value : AttrOp → AttrValue → AttrValue
changed_value (Override new) value = new
changed_value (Add by) value = plus value by
changed_value (Sub by) value = minus value by

abbrev pub amount : AttrValue → ℕ
amount (values.U64 n) = n
amount (values.Bool b) = 0
amount (values.I64 n) = 0

-- no more was taken than there was
abbrev pub Covers : AttrValue → List AttrOp → Type 0
Covers base ops = sum_by taken ops ≤ amount base + sum_by added ops

abbrev pub IsCovered : AttrValue → List AttrOp → Type 0
IsCovered first ops = Covers (unwrap_or (last_of set_by ops) first) (after_last is_override ops)

abbrev Moves : AttrValue → List AttrOp → AttrOp → Type 0
Moves base ops op = (moved base (ops ++ op ∷ []) ≡ changed_value op (moved base ops)) × Covers base (ops ++ op ∷ [])

allowed_le : (a b : ℕ) → cond (nat_le a b) None (Some OutOfRange) ≡ None → a ≤ b
allowed_le a b e = grind (arith, nat_tests)

sum_signed_push : (part : AttrOp → ℤ) (ops : List AttrOp) (op : AttrOp) → sum_signed part (ops ++ op ∷ []) ≡ sum_signed part ops +ℤ part op
sum_signed_push part ops op = fold-append (λ sum op. sum +ℤ part op) (pos 0) ops (op ∷ [])

move : (base : AttrValue) (ops : List AttrOp) (op : AttrOp) → set_by op ≡ None → refused_change (moved base ops) op ≡ None → Covers base ops → Moves base ops op
move (values.U64 n) ops (Add (values.U64 by)) free allowed covers = simp (sum_by_push) (ap (λ m. values.U64 m) (omega arith), omega arith)
move (values.U64 n) ops (Sub (values.U64 by)) free allowed covers =
    let le = allowed_le _ _ allowed in
    simp (sum_by_push) (ap (λ m. values.U64 m) (omega arith), omega arith)
move (values.U64 n) ops (Add (values.Bool b)) free allowed covers = absurd cc
move (values.U64 n) ops (Add (values.I64 by)) free allowed covers = absurd cc
move (values.U64 n) ops (Sub (values.Bool b)) free allowed covers = absurd cc
move (values.U64 n) ops (Sub (values.I64 by)) free allowed covers = absurd cc
move (values.Bool b) ops (Add v) free allowed covers = absurd cc
move (values.Bool b) ops (Sub v) free allowed covers = absurd cc
move (values.I64 n) ops (Add (values.U64 by)) free allowed covers = absurd cc
move (values.I64 n) ops (Add (values.Bool b)) free allowed covers = absurd cc
move (values.I64 n) ops (Add (values.I64 by)) free allowed covers = rw (sum_signed_push added_signed, sum_signed_push taken_signed) (simp (sum_by_push) (ap (λ m. values.I64 m) (omega (arith, ints)), omega arith))
move (values.I64 n) ops (Sub (values.U64 by)) free allowed covers = absurd cc
move (values.I64 n) ops (Sub (values.Bool b)) free allowed covers = absurd cc
move (values.I64 n) ops (Sub (values.I64 by)) free allowed covers = rw (sum_signed_push added_signed, sum_signed_push taken_signed) (simp (sum_by_push) (ap (λ m. values.I64 m) (omega (arith, ints)), omega arith))
move base ops (Override v) free allowed covers = absurd cc

pub covers_none : (base : AttrValue) → Covers base []
covers_none base = omega arith

overridden : (value : AttrValue) → moved value [] ≡ value
overridden (values.U64 n) = ap (λ m. values.U64 m) (omega arith)
overridden (values.Bool b) = refl
overridden (values.I64 n) = ap (λ m. values.I64 m) (omega (arith, ints))

-- a change that isn't refused changes the value, and takes no more than there is
pub value_push : (first : AttrValue) (ops : List AttrOp) (op : AttrOp) → refused_change (value_of first ops) op ≡ None → IsCovered first ops
    → (value_of first (ops ++ op ∷ []) ≡ changed_value op (value_of first ops)) × IsCovered first (ops ++ op ∷ [])
unfolding value_of
value_push first ops (Override new) allowed covered = simp (last_of_push, after_last_push) (overridden new, covers_none new)
value_push first ops (Add v) allowed covered = simp (last_of_push, after_last_push) (move (unwrap_or (last_of set_by ops) first) (after_last is_override ops) (Add v) refl allowed covered)
value_push first ops (Sub v) allowed covered = simp (last_of_push, after_last_push) (move (unwrap_or (last_of set_by ops) first) (after_last is_override ops) (Sub v) refl allowed covered)

-- ---- the values of several attributes, where change says which call changes which
module _ {C : Type 0} (change : ℕ → C → Option AttrOp) where
  -- the changes of one attribute
  abbrev pub changes : ℕ → List C → List AttrOp
  changes i calls = filter_map (change i) calls

  pub changes_push : (i : ℕ) (calls : List C) (call : C) → changes i (calls ++ call ∷ []) ≡ changes i calls ++ cons_option (change i call) []
  changes_push i calls call = filter_map-append (change i) calls (call ∷ [])

  -- the value at an index
  pub value_at : (i j : ℕ) (firsts : List AttrValue) (calls : List C) → slice_get (values_from change i firsts calls) j ≡ option_map (λ first. value_of first (changes (i + j) calls)) (slice_get firsts j)
  value_at i j [] calls = refl
  value_at i zero (first ∷ firsts) calls = rw add-zero
  value_at i (suc j) (first ∷ firsts) calls =
      let e : i + suc j ≡ (i + 1) + j = omega arith in
      rw e (value_at (i + 1) j firsts calls)

  -- a call that changes none of them
  pub values_same : (i : ℕ) (firsts : List AttrValue) (calls : List C) (call : C) → ((j : ℕ) → i ≤ j → change j call ≡ None) → values_from change i firsts (calls ++ call ∷ []) ≡ values_from change i firsts calls
  values_same i [] calls call none = refl
  values_same i (first ∷ firsts) calls call none =
      let nothing : change i call ≡ None = none i (omega arith) in
      let e : changes i (calls ++ call ∷ []) ≡ changes i calls = changes_push i calls call ∙ rw (nothing, append-nil) in
      rw (e, values_same (i + 1) firsts calls call (λ j le. none j (omega arith))) refl

  -- a call that changes the one at an index
  pub values_set : (i j : ℕ) (firsts : List AttrValue) (calls : List C) (call : C) (op : AttrOp) (new : AttrValue) → change (i + j) call ≡ Some op → ((k : ℕ) → (k ≡ i + j → ⊥) → change k call ≡ None)
      → ((first : AttrValue) → slice_get firsts j ≡ Some first → value_of first (changes (i + j) calls ++ op ∷ []) ≡ new)
      → values_from change i firsts (calls ++ call ∷ []) ≡ set (values_from change i firsts calls) j new
  values_set i j [] calls call op new here others changed = refl
  values_set i zero (first ∷ firsts) calls call op new here others changed =
      let at_i : change i call ≡ Some op = rw add-zero at here in
      let e : changes i (calls ++ call ∷ []) ≡ changes i calls ++ op ∷ [] = changes_push i calls call ∙ rw at_i refl in
      let value : value_of first (changes i calls ++ op ∷ []) ≡ new = rw add-zero at (changed first refl) in
      rw (e, value, values_same (i + 1) firsts calls call (λ k le. others k (omega arith))) refl
  values_set i (suc j) (first ∷ firsts) calls call op new here others changed =
      let nothing : change i call ≡ None = others i (omega arith) in
      let e : changes i (calls ++ call ∷ []) ≡ changes i calls = changes_push i calls call ∙ rw (nothing, append-nil) in
      let same : i + suc j ≡ (i + 1) + j = omega arith in
      rw (e, values_set (i + 1) j firsts calls call op new (rw same at here) (λ k ne. others k (λ eq. ne (eq ∙ same))) (λ f is. rw same at (changed f is))) refl

-- the values after a change of the one at an index, if it is there
abbrev pub replaced : List AttrValue → ℕ → AttrOp → Option AttrValue → List AttrValue
replaced attrs i op None = attrs
replaced attrs i op (Some value) = set attrs i (changed_value op value)

module _ {C : Type 0} (change : ℕ → C → Option AttrOp) where
  -- of each attribute no more was taken than there was
  abbrev pub AllCovered : List AttrValue → List C → Type 0
  AllCovered firsts calls = (i : ℕ) (first : AttrValue) → slice_get firsts i ≡ Some first → IsCovered first (changes change i calls)

  pub all_covered_none : (firsts : List AttrValue) → AllCovered firsts []
  unfolding last_of
  all_covered_none firsts i first is = covers_none first

  -- a call that changes no attribute leaves the values
  pub attrs_same : (firsts : List AttrValue) (calls : List C) (call : C) → ((i : ℕ) → change i call ≡ None) → AllCovered firsts calls
      → (values_from change 0 firsts (calls ++ call ∷ []) ≡ values_from change 0 firsts calls) × AllCovered firsts (calls ++ call ∷ [])
  attrs_same firsts calls call none covered = (
    values_same change 0 firsts calls call (λ i le. none i),
    λ i first is.
        let e : changes change i (calls ++ call ∷ []) ≡ changes change i calls = changes_push change i calls call ∙ rw (none i, append-nil) in
        rw e (covered i first is),
  )

  at_zero : (firsts : List AttrValue) (calls : List C) (i : ℕ) (o : Option AttrValue) → slice_get firsts i ≡ o → slice_get (values_from change 0 firsts calls) i ≡ option_map (λ first. value_of first (changes change i calls)) o
  at_zero firsts calls i o is = value_at change 0 i firsts calls ∙ rw (is, zero-add) refl

  -- a call that changes the one at an index, which doesn't refuse
  pub attrs_changed : (firsts : List AttrValue) (calls : List C) (call : C) (i : ℕ) (op : AttrOp) (o : Option AttrValue) → slice_get firsts i ≡ o
      → change i call ≡ Some op → ((k : ℕ) → (k ≡ i → ⊥) → change k call ≡ None)
      → AllCovered firsts calls → refused_by (slice_get (values_from change 0 firsts calls) i) op ≡ None
      → (values_from change 0 firsts (calls ++ call ∷ []) ≡ replaced (values_from change 0 firsts calls) i op (slice_get (values_from change 0 firsts calls) i)) × AllCovered firsts (calls ++ call ∷ [])
  attrs_changed firsts calls call i op None is here others covered free =
      let gone : refused_by None op ≡ None = rw (at_zero firsts calls i None is) at free in
      absurd cc
  attrs_changed firsts calls call i op (Some first) is here others covered free =
      let ops = changes change i calls in
      let at = at_zero firsts calls i (Some first) is in
      let allowed : refused_change (value_of first ops) op ≡ None = rw at at free in
      let p = value_push first ops op allowed (covered i first is) in
      let new = changed_value op (value_of first ops) in
      let whole = values_set change 0 i firsts calls call op new (rw zero-add here) (λ k ne. others k (λ e. ne (e ∙ sym (zero-add i)))) (λ f fis. let same : f ≡ first = cc in rw (zero-add, same) p.0) in (
        rw at whole,
        λ k f kis. elim (cases_eq k i) [
          | inl e ↦
              let same : f ≡ first = cc (ap (λ (n : ℕ). slice_get firsts n) e) in
              let more : changes change i (calls ++ call ∷ []) ≡ ops ++ op ∷ [] = changes_push change i calls call ∙ rw here refl in
              rw (e, same, more) p.1
          | inr ne ↦
              let more : changes change k (calls ++ call ∷ []) ≡ changes change k calls = changes_push change k calls call ∙ rw (others k ne, append-nil) in
              rw more (covered k f kis)
        ],
      )

values_none : {C : Type 0} (change : ℕ → C → Option AttrOp) (i : ℕ) (firsts : List AttrValue) → values_from change i firsts [] ≡ firsts
unfolding value_of last_of
values_none change i [] = refl
values_none change i (values.U64 n ∷ firsts) = rw (values_none change (i + 1) firsts) (ap (λ m. values.U64 m ∷ firsts) (omega arith))
values_none change i (values.Bool b ∷ firsts) = rw (values_none change (i + 1) firsts) refl
values_none change i (values.I64 n ∷ firsts) = rw (values_none change (i + 1) firsts) (ap (λ m. values.I64 m ∷ firsts) (omega (arith, ints)))

-- no calls leave the first values
pub values_from-nil : {C : Type 0} (change : ℕ → C → Option AttrOp) (firsts : List AttrValue) → values_from change 0 firsts [] ≡ firsts
values_from-nil change firsts = values_none change 0 firsts

-- an index is changed by the call that names it, and by no other
pub names_index : (i : ℕ) (op : AttrOp) → cond (i == i) (Some op) None ≡ Some op
names_index i op = rw (eq-eqb i i refl) refl

pub names_no_other : (k i : ℕ) (op : AttrOp) → (k ≡ i → ⊥) → cond (k == i) (Some op) None ≡ None
names_no_other k i op ne = rw (ne_eqb k i ne) refl
