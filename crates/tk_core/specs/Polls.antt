-- Polls: what their starts and ends say. Tasks and async operations are polled alike.
use Rattle.std.specs.Prelude.{ℕ, ◌-◌, Bool, true, false, if◌then◌else◌, List, Option, Some, None, unwrap_or, is_some}
use Rattle.std.specs.Option.{option_map_or}
use Rattle.tk_core.specs.Lists.{last_of}

-- calls of which some start a poll and some end one, each at its moment
module _ {C : Type 0} (start_at end_at : C → Option ℕ) where
  -- a start of a poll
  abbrev pub is_start : C → Bool
  is_start call = is_some (start_at call)

  -- whether a call starts a poll or ends one, if it does either
  abbrev pub starts_or_ends : C → Option Bool
  starts_or_ends call = if is_some (start_at call) then Some true else if is_some (end_at call) then Some false else None

  -- polling: of the starts and ends of polls the last is a start
  abbrev pub is_polling : List C → Bool
  is_polling calls = unwrap_or (last_of starts_or_ends calls) false

  -- how long a poll ran that a call ends: from the last start before it, at least 0
  abbrev pub run_time : List C → C → ℕ
  run_time before call = option_map_or (λ m. m - unwrap_or (last_of start_at before) m) (end_at call) 0
