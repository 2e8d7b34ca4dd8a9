-- Histograms: how often a task's polls ran for how long, and its waits lasted, as a line says it and as it is kept beside tables.
use Rattle.std.specs.Prelude.{ℕ, zero, suc, ◌+◌, ◌==◌, nat_eq, List, [], ◌∷◌, Bool, ◌&&◌, Option, Some, None, option_map, is_some, if◌then◌else◌}
use Rattle.std.specs.Cmp.Lexicographic.{pointwise}
use Rattle.std.specs.Option.{option_eq}
use Rattle.tk_core.specs.declared.times.row.TimesRow.{TimesRow}
use Rattle.tk_stream.specs.declared.tables.times.PollTimes.{PollTimes}
use Rattle.tk_stream.specs.declared.tables.times.WaitTimes.{WaitTimes}

-- a task and the histogram of its poll times: (task, histogram)
abbrev pub TaskTimes : Type 0
TaskTimes = ℕ × PollTimes

-- the task whose polls are counted
abbrev pub times_id : TaskTimes → ℕ
times_id t = t.0

-- the histogram that a row shows, of a task whose waits aren't counted
abbrev pub times_shown : TimesRow → PollTimes
times_shown row = record { longest = row.longest; counts = row.counts; waits = None }

-- the histogram of waits that a row shows
abbrev pub waits_shown : TimesRow → WaitTimes
waits_shown row = record { longest = row.longest; counts = row.counts }

-- the histograms that a row of polls and a row of waits show
abbrev pub both_shown : TimesRow → TimesRow → PollTimes
both_shown polls waits = record (times_shown polls) { waits = Some (waits_shown waits) }

-- whether a task's histogram has that of its waits beside it
abbrev pub has_waits : TaskTimes → Bool
has_waits t = is_some t.1.waits

-- a task with another histogram
abbrev pub times_with : TaskTimes → PollTimes → TaskTimes
times_with t times = (t.0, times)

-- whether two histograms of waits agree
abbrev pub same_waits : WaitTimes → WaitTimes → Bool
same_waits a b = a.longest == b.longest && pointwise nat_eq a.counts b.counts

-- whether two histograms of tasks agree
abbrev pub same_times : TaskTimes → TaskTimes → Bool
same_times a b = a.0 == b.0 && a.1.longest == b.1.longest && pointwise nat_eq a.1.counts b.1.counts && option_eq same_waits a.1.waits b.1.waits

-- histograms are told as they are
abbrev pub all_times : TaskTimes → TaskTimes
all_times t = t

-- the buckets that aren't empty, each as its number and its count, where the counts are those of the buckets from this one on
abbrev pub filled_from : ℕ → List ℕ → List (ℕ × ℕ)
filled_from k [] = []
filled_from k (n ∷ ns) = if n == 0 then filled_from (k + 1) ns else (k, n) ∷ filled_from (k + 1) ns

-- the counts of so many buckets from this one on, of which these, in rising order, are those that aren't empty
abbrev pub counts_from : ℕ → ℕ → List (ℕ × ℕ) → Option (List ℕ)
counts_from k zero [] = Some []
counts_from k zero (b ∷ bs) = None
counts_from k (suc n) [] = option_map (λ ns. 0 ∷ ns) (counts_from (k + 1) n [])
counts_from k (suc n) (b ∷ bs) =
    if b.0 == k then (if b.1 == 0 then None else option_map (λ ns. b.1 ∷ ns) (counts_from (k + 1) n bs))
    else option_map (λ ns. 0 ∷ ns) (counts_from (k + 1) n (b ∷ bs))
