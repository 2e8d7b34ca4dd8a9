-- What a history of a histogram of times means: the longest of the times that were added, how many of them lie in each bucket, and the answer to a further call.
use Rattle.std.specs.Prelude.{◌≡◌, ℕ, zero, suc, ◌+◌, ◌^◌, nat_le, Bool, true, false, ◌&&◌, ◌==◌, if◌then◌else◌, List, [], ◌∷◌, replicate, Option, Some, None, unwrap_or}
use Rattle.std.specs.Option.{option_map_or}
use Rattle.tk_core.specs.Lists.{count_of, greatest_of}
use Rattle.tk_core.specs.Fold.{Kind}
use Rattle.tk_core.specs.declared.reply.Refusal.{Refusal}
use Rattle.tk_core.specs.declared.reply.Refusal.TheVariants as refusals
use Rattle.tk_core.specs.declared.reply.Reply.{Reply}
use Rattle.tk_core.specs.declared.reply.Reply.TheVariants.{Done, Number, Shown}
use Rattle.tk_core.specs.declared.times.row.TimesRow.{TimesRow}
use Rattle.tk_core.specs.declared.times.call.TimesCall.{TimesCall}
use Rattle.tk_core.specs.declared.times.call.TimesCall.TheVariants.{Add, Enlist, Read}

-- the bounds of the buckets, in nanoseconds: 16 microseconds to 67 milliseconds
abbrev pub bounds : List ℕ
bounds =
    2 ^ 14 ∷ 2 ^ 15 ∷ 2 ^ 16 ∷ 2 ^ 17 ∷ 2 ^ 18 ∷ 2 ^ 19 ∷ 2 ^ 20 ∷ 2 ^ 21
    ∷ 2 ^ 22 ∷ 2 ^ 23 ∷ 2 ^ 24 ∷ 2 ^ 25 ∷ 2 ^ 26
    ∷ []

-- how many of some bounds a time has reached
abbrev pub reached : List ℕ → ℕ → ℕ
reached [] time = 0
reached (b ∷ bs) time = (if nat_le b time then 1 else 0) + reached bs time

-- the bucket of a time, counted from 0: how many of the bounds it has reached
abbrev pub bucket_of : ℕ → ℕ
bucket_of time = reached bounds time

-- the time that a call adds
abbrev pub time_of : TimesCall → Option ℕ
time_of (Add time) = Some time
time_of _ = None

-- whether a call adds a time of this bucket
abbrev pub is_in : ℕ → TimesCall → Bool
is_in k call = option_map_or (λ time. bucket_of time == k) (time_of call) false

-- a call that draws a handle: an inspector's
abbrev pub draws_handle : TimesCall → Bool
draws_handle Enlist = true
draws_handle _ = false

-- how many times lie in each of so many buckets, from this one on
unfoldable pub counts_from : ℕ → ℕ → List TimesCall → List ℕ
counts_from k zero calls = []
counts_from k (suc n) calls = count_of (is_in k) calls ∷ counts_from (k + 1) n calls

-- the longest time that was added, and 0 where none was
abbrev pub longest_of : List TimesCall → ℕ
longest_of calls = unwrap_or (greatest_of time_of calls) 0

-- the row that accepted calls leave
unfoldable pub row_of : TimesRow → List TimesCall → TimesRow
row_of opening calls = record {
  handles = count_of draws_handle calls;
  longest = longest_of calls;
  counts = counts_from 0 14 calls;
}

-- the row before any call
abbrev pub opening_row : TimesRow
opening_row = record { handles = 0; longest = 0; counts = replicate 14 0 }

-- the first refusal that applies
abbrev pub refusal_of : TimesRow → TimesCall → Option Refusal
refusal_of row call = if draws_handle call && row.handles == 2 ^ 62 then Some refusals.HandlesSpent else None

-- the reply where nothing is refused
abbrev pub reply_of : TimesRow → TimesCall → Reply TimesRow
reply_of row (Add time) = Done
reply_of row Enlist = Number (row.handles + 1)
reply_of row Read = Shown row

-- what a histogram of times is
abbrev pub times_kind : Kind TimesRow TimesCall
times_kind = record { row_of = row_of; refusal_of = refusal_of; reply_of = reply_of }

-- the opening row has no times
abbrev pub IsOpening : TimesRow → Type 0
IsOpening row = row ≡ opening_row

-- the owner makes every call
abbrev pub owner_may : TimesCall → Bool
owner_may call = true

-- an inspector enlists further inspectors and reads
abbrev pub inspector_may : TimesCall → Bool
inspector_may (Add time) = false
inspector_may _ = true

-- what the caller may do whose number a call drew
abbrev pub made_may : TimesCall → TimesCall → Bool
made_may Enlist call = inspector_may call
made_may _ call = false

-- no call of a histogram is its caller's last
abbrev pub is_last : TimesCall → Bool
is_last call = false
