-- Attributes: what the changes of a value make of it, and which it refuses.
use Rattle.std.specs.Prelude.{ℕ, ◌+◌, ◌-◌, ◌^◌, ℤ, pos, neg_ℤ, ◌+ℤ◌, ◌-ℤ◌, int_lt, int_le, Bool, ◌&&◌, nat_lt, nat_le, if◌then◌else◌, List, [], ◌∷◌, sum_by, fold, Option, Some, None, unwrap_or, is_some}
use Rattle.std.specs.List.{after_last, filter_map}
use Rattle.tk_ids.specs.declared.attr.AttrValue.{AttrValue}
use Rattle.tk_ids.specs.declared.attr.AttrValue.TheVariants as values
use Rattle.tk_core.specs.Lists.{last_of}
use Rattle.tk_core.specs.declared.attrs.AttrOp.{AttrOp}
use Rattle.tk_core.specs.declared.attrs.AttrOp.TheVariants.{Add, Sub, Override}
use Rattle.tk_core.specs.declared.reply.Refusal.{Refusal}
use Rattle.tk_core.specs.declared.reply.Refusal.TheVariants.{NoAttribute, WrongKind, OutOfRange}

-- what a change adds to an unsigned number
abbrev pub added : AttrOp → ℕ
added (Add (values.U64 n)) = n
added _ = 0

-- what a change takes away from an unsigned number
abbrev pub taken : AttrOp → ℕ
taken (Sub (values.U64 n)) = n
taken _ = 0

-- what a change adds to a signed number
abbrev pub added_signed : AttrOp → ℤ
added_signed (Add (values.I64 n)) = n
added_signed _ = pos 0

-- what a change takes away from a signed number
abbrev pub taken_signed : AttrOp → ℤ
taken_signed (Sub (values.I64 n)) = n
taken_signed _ = pos 0

-- the sum of what changes add, or take away
abbrev pub sum_signed : (AttrOp → ℤ) → List AttrOp → ℤ
sum_signed part ops = fold (λ sum op. sum +ℤ part op) (pos 0) ops

-- 64 bits hold a signed number: it is from -2^63 to 2^63 - 1
abbrev pub is_i64 : ℤ → Bool
is_i64 n = int_le (neg_ℤ (pos (2 ^ 63))) n && int_lt n (pos (2 ^ 63))

-- what a change overrides the value with
abbrev pub set_by : AttrOp → Option AttrValue
set_by (Override value) = Some value
set_by _ = None

-- whether a change is an override
abbrev pub is_override : AttrOp → Bool
is_override op = is_some (set_by op)

-- a number plus what is added, minus what is taken away
abbrev pub moved : AttrValue → List AttrOp → AttrValue
moved (values.U64 n) ops = values.U64 ((n + sum_by added ops) - sum_by taken ops)
moved (values.Bool b) ops = values.Bool b
moved (values.I64 n) ops = values.I64 ((n +ℤ sum_signed added_signed ops) -ℤ sum_signed taken_signed ops)

-- the value that changes leave: the last override (or the first value), plus the adds after it, minus the subtractions after it
unfoldable pub value_of : AttrValue → List AttrOp → AttrValue
value_of first ops = moved (unwrap_or (last_of set_by ops) first) (after_last is_override ops)

-- the values of attributes that are numbered from `i`, where `change_of` says how a call changes the attribute of an index
abbrev pub values_from : {C : Type 0} → (ℕ → C → Option AttrOp) → ℕ → List AttrValue → List C → List AttrValue
values_from change_of i [] calls = []
values_from change_of i (first ∷ firsts) calls = value_of first (filter_map (change_of i) calls) ∷ values_from change_of (i + 1) firsts calls

-- why a value refuses a change: another kind, or a number that leaves its range. A `Bool` is only overridden
abbrev pub refused_change : AttrValue → AttrOp → Option Refusal
refused_change (values.U64 n) (Add (values.U64 by)) = if nat_lt (n + by) (2 ^ 64) then None else Some OutOfRange
refused_change (values.U64 n) (Sub (values.U64 by)) = if nat_le by n then None else Some OutOfRange
refused_change (values.U64 n) (Override (values.U64 m)) = None
refused_change (values.Bool b) (Override (values.Bool c)) = None
refused_change (values.I64 n) (Add (values.I64 by)) = if is_i64 (n +ℤ by) then None else Some OutOfRange
refused_change (values.I64 n) (Sub (values.I64 by)) = if is_i64 (n -ℤ by) then None else Some OutOfRange
refused_change (values.I64 n) (Override (values.I64 m)) = None
refused_change _ _ = Some WrongKind

-- why the attribute of an index refuses a change: it isn't there, or its value refuses
abbrev pub refused_by : Option AttrValue → AttrOp → Option Refusal
refused_by None op = Some NoAttribute
refused_by (Some value) op = refused_change value op
