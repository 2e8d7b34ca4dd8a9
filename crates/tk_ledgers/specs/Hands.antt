-- Inner: what is kept of the callers that are in one hand, and which calls they make. No public clause cites this file.
use Rattle.std.specs.Prelude.{◌≡◌, ℕ, ◌⊎◌, true, false, List, Some}
use Rattle.tk_core.specs.Meaning.{Meaning}
use Rattle.tk_core.specs.Legal.{has_ended}
use Rattle.tk_cell.specs.declared.view.View.{View}
use Rattle.tk_cell.specs.Views.{Holds}
use Rattle.tk_ledgers.specs.Handles.{Caller, owner, made_by, role_may}
use Rattle.tk_ledgers.specs.Callers.{IsLive, HoldsOnly}

module _ {O C R : Type 0} (m : Meaning O C R) where
  -- beside the owner there is nobody, or callers alone whose numbers were answered to one call
  abbrev pub Others : Caller C → View O C R → Type 0
  Others owner v = (n : ℕ) → Holds v n → n ≡ 0
  Others (made_by made) v = HoldsOnly m made v

  -- the owner is there, and made no last call
  pub record IsHand (role : Caller C) (v : View O C R) : Type 0 where
    pub owner_held : Holds v 0
    pub owner_goes_on : has_ended m v.seen 0 ≡ false
    pub others : Others role v

  -- the owner, or another caller that is live
  abbrev pub MayCall : Caller C → View O C R → ℕ → C → Type 0
  MayCall role v n call = ((n ≡ 0) × (m.owner_may call ≡ true) × (m.is_last call ≡ false)) ⊎ (IsLive m v n × (role_may m role call ≡ true))

  -- where the call answers a number, it makes a caller of this role
  abbrev pub Draws : Caller C → C → Type 0
  Draws role call = (opening : O) (calls : List C) (n : ℕ) → m.number (m.reply_after opening calls call) ≡ Some n → role ≡ made_by call
