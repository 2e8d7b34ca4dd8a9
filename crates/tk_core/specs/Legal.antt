-- Which histories are legal: what each caller may do, and when.
use Rattle.std.specs.Prelude.{◌≡◌, ℕ, ◌==◌, Bool, true, false, filter, List, ◌∷◌, ◌++◌, Option, find, if◌then◌else◌}
use Rattle.std.specs.List.{list_any}
use Rattle.std.specs.Option.{option_map, option_map_or}
use Rattle.tk_core.specs.declared.history.Entry.{Entry}
use Rattle.tk_core.specs.Meaning.{Meaning}
use Rattle.tk_core.specs.History.{calls_of}

-- the entries of one caller
abbrev pub own : {C R : Type 0} → ℕ → List (Entry C R) → List (Entry C R)
own caller h = filter (λ e. e.caller == caller) h

module _ {O C R : Type 0} (m : Meaning O C R) where
  -- whether a reply answers this number
  abbrev pub answers : ℕ → R → Bool
  answers n reply = option_map_or (λ k. k == n) (m.number reply) false

  -- the call that a number was answered to, if it was answered
  abbrev pub maker : ℕ → List (Entry C R) → Option C
  maker n h = option_map (λ e. e.call) (find (λ e. answers n e.reply) h)

  -- whether a caller's role allows a call: the owner's from the start, another's once its number was answered
  abbrev pub may_call : List (Entry C R) → ℕ → C → Bool
  may_call h caller call = if caller == 0 then m.owner_may call else option_map_or (λ made. m.made_may made call) (maker caller h) false

  -- whether a caller has made its last call
  abbrev pub has_ended : List (Entry C R) → ℕ → Bool
  has_ended h caller = list_any (λ e. m.is_last e.call) (own caller h)

  -- an entry may follow a history: its reply is the answer, its caller's role allows its call, and its caller has not ended
  pub record MayFollow (opening : O) (h : List (Entry C R)) (e : Entry C R) : Type 0 where
    pub reply : e.reply ≡ m.reply_after opening (calls_of h) e.call
    pub role : may_call h e.caller e.call ≡ true
    pub going : has_ended h e.caller ≡ false

  -- each entry may follow those before it
  abbrev pub IsLegal : O → List (Entry C R) → Type 0
  IsLegal opening h = (before after : List (Entry C R)) (e : Entry C R) → before ++ e ∷ after ≡ h → MayFollow opening before e
