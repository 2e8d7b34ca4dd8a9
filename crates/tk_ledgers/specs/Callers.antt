-- The callers of an item that are in one hand, the owner among them: which are live, what a call of one of them does, and what is known of
-- those that were handed out and taken back. The calls of a hand are `ours` of its token (`tk_cell`).
use Rattle.std.specs.Prelude.{◌≡◌, ◌≢◌, ℕ, ◌<◌, ◌⊎◌, ◌==◌, ◌&&◌, false, not, filter, List, [], ◌∷◌, ◌++◌, Option, Some, None, if◌then◌else◌}
use Rattle.tk_core.specs.declared.history.Entry.{Entry}
use Rattle.tk_core.specs.Meaning.{Meaning}
use Rattle.tk_core.specs.Legal.{maker, has_ended}
use Rattle.tk_cell.specs.declared.view.View.{View}
use Rattle.tk_cell.specs.Views.{times, without, Holds, Known, known, after_split, split_off, as_caller}
use Rattle.tk_cell.specs.Calls.{Calls, Joins, entry}
use Rattle.tk_cell.specs.Ours.{ours, CallsBeside}

-- the numbers, and the one that was drawn, if one was
abbrev pub with_drawn : Option ℕ → List ℕ → List ℕ
with_drawn None ns = ns
with_drawn (Some n) ns = ns ++ n ∷ []

module _ {O C R : Type 0} (m : Meaning O C R) where
  -- the live callers of a hand, but for the owner: those that it holds and that made no last call
  abbrev pub live : View O C R → List ℕ
  live v = filter (λ n. not (n == 0) && not (has_ended m v.seen n)) v.held

  abbrev pub IsLive : View O C R → ℕ → Type 0
  IsLive v n = 0 < times n (live v)

  -- the live callers after a call: its caller is none of them any more where it was a last call, and who was drawn is one more
  abbrev pub live_after : ℕ → C → R → List ℕ → List ℕ
  live_after n call reply ns = with_drawn (m.number reply) (if m.is_last call then without n ns else ns)

  -- one of the callers makes a call: that is one entry more of the ledger, and of the calls of the hand
  pub record CallsAs (old : Known O C R) (n : ℕ) (call : C) (reply : R) (new : Known O C R) : Type 0 where
    pub owner_held : Holds old.view 0
    pub ledger : new.ledger ≡ old.ledger
    pub calls : ours new.view ≡ ours old.view ++ entry n call reply ∷ []
    pub now_live : live new.view ≡ live_after n call reply (live old.view)
    -- the opening row and the entries of the other callers stay, and the reply is that of the history
    pub made : Calls m (as_caller n old.view) call reply new.view

  -- a live caller is handed out: the hand holds it no more, and its handle has seen as much
  pub record HandsOut (old : Known O C R) (n : ℕ) (new made : Known O C R) : Type 0 where
    pub was_live : IsLive old.view n
    pub now_live : live new.view ≡ without n (live old.view)
    pub kept : new ≡ known old.ledger (after_split n (as_caller 0 old.view))
    pub given : made ≡ known old.ledger (split_off n old.view)

  -- callers are taken back: the hand holds them again, and knows their calls
  pub record TakesBack (old other new : Known O C R) : Type 0 where
    pub ledger : new.ledger ≡ old.ledger
    pub now_live : live new.view ≡ live old.view ++ live other.view
    -- their calls and those of the hand are interleaved, each list in its order (`JoinsInterleave` of `tk_cell`)
    pub joined : Joins m old.view other.view new.view

  -- a token holds callers alone whose numbers were answered to this call, but for the owner
  abbrev pub HoldsOnly : C → View O C R → Type 0
  HoldsOnly made v = (n : ℕ) → Holds v n → n ≢ 0 → maker m n v.seen ≡ Some made

  -- each number that was answered to the calls of a hand is held by it, or is one of these
  abbrev pub HoldsAllBut : List ℕ → View O C R → Type 0
  HoldsAllBut others v = (before after : List (Entry C R)) (e : Entry C R) → before ++ e ∷ after ≡ ours v → (n : ℕ) → m.number e.reply ≡ Some n → Holds v n ⊎ (0 < times n others)

  -- ---- so it stays

  -- after a call of the hand
  abbrev pub CallsKeepAll : Type 0
  CallsKeepAll = (old new : Known O C R) (n : ℕ) (call : C) (reply : R) (others : List ℕ) → CallsAs old n call reply new → HoldsAllBut others old.view → HoldsAllBut others new.view

  -- who was handed out is one of the others then
  abbrev pub HandingOutKeepsAll : Type 0
  HandingOutKeepsAll = (old new made : Known O C R) (n : ℕ) (others : List ℕ) → HandsOut old n new made → HoldsAllBut others old.view
      → HoldsAllBut (n ∷ others) new.view × HoldsAllBut (old.view.held ++ others) made.view

  -- who is taken back is none of them any more
  abbrev pub TakingBackKeepsAll : Type 0
  TakingBackKeepsAll = (old other new : Known O C R) (before others : List ℕ) → TakesBack old other new → HoldsAllBut before old.view → HoldsAllBut before other.view
      → ((n : ℕ) → 0 < times n before → Holds new.view n ⊎ (0 < times n others)) → HoldsAllBut others new.view

  -- and a call beside the hand leaves it
  abbrev pub BesideKeepsAll : Type 0
  BesideKeepsAll = (v q w u : View O C R) (call : C) (reply : R) (others : List ℕ) → CallsBeside m v q call reply w u → HoldsAllBut others v → HoldsAllBut others w

  -- a token that holds callers of one role alone does so after a call, unless it draws one of another role
  abbrev pub CallsKeepOnly : Type 0
  CallsKeepOnly = (v w : View O C R) (call made : C) (reply : R) → Calls m v call reply w → (m.number reply ≡ None) ⊎ (call ≡ made) → HoldsOnly made v → HoldsOnly made w

  -- ---- who is live then

  -- who was drawn is live, and who was live stays so, but for one whose last call it was
  abbrev pub CallsKeepLive : Type 0
  CallsKeepLive = (old new : Known O C R) (n : ℕ) (call : C) (reply : R) → CallsAs old n call reply new
      → ((k : ℕ) → m.number reply ≡ Some k → IsLive new.view k) × ((k : ℕ) → IsLive old.view k → (k ≢ n) ⊎ (m.is_last call ≡ false) → IsLive new.view k)

  -- and who was drawn was none of the live
  abbrev pub DrawnIsNew : Type 0
  DrawnIsNew = (old new : Known O C R) (n : ℕ) (call : C) (reply : R) (k : ℕ) → CallsAs old n call reply new → m.number reply ≡ Some k → IsLive old.view k → ⊥

  -- who isn't handed out stays live, and who is, is live there
  abbrev pub HandingOutKeepsLive : Type 0
  HandingOutKeepsLive = (old new made : Known O C R) (n : ℕ) → HandsOut old n new made
      → ((k : ℕ) → k ≢ n → IsLive old.view k → IsLive new.view k) × IsLive made.view n

  -- and stays so until its last call
  abbrev pub HandlesStayLive : Type 0
  HandlesStayLive = (v w : View O C R) (call : C) (reply : R) → Calls m v call reply w → IsLive v v.caller → m.is_last call ≡ false → IsLive w w.caller

  -- who is taken back is live again, where it made no last call
  abbrev pub TakingBackKeepsLive : Type 0
  TakingBackKeepsLive = (old other new : Known O C R) (k : ℕ) → TakesBack old other new → IsLive old.view k ⊎ IsLive other.view k → IsLive new.view k
