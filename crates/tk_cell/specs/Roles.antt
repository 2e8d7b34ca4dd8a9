-- As whom a token makes calls: as the owner, or as a caller that a given call made. Its last call is still to come.
use Rattle.std.specs.Prelude.{◌≡◌, ◌≢◌, false, Some}
use Rattle.tk_core.specs.Meaning.{Meaning}
use Rattle.tk_core.specs.Legal.{maker, has_ended}
use Rattle.tk_cell.specs.declared.view.View.{View}

module _ {O C R : Type 0} (m : Meaning O C R) where
  -- the token makes the owner's calls
  pub record IsOwner (v : View O C R) : Type 0 where
    pub caller : v.caller ≡ 0
    pub going : has_ended m v.seen v.caller ≡ false

  -- the token makes the calls of a caller whose number was answered to this call
  pub record IsMadeBy (made : C) (v : View O C R) : Type 0 where
    pub other : v.caller ≢ 0
    pub by : maker m v.caller v.seen ≡ Some made
    pub going : has_ended m v.seen v.caller ≡ false
