-- What the machine's clock tells.
use Rattle.std.specs.Prelude.{◌≡◌, ℕ, ◌≤◌, true}
use Rattle.tk_exec.specs.declared.system_clock.SystemClock.{SystemClock}

-- the moment isn't below the one before, the start stays, and a failure stays said
pub record Tells {R : Type 0} (clock : SystemClock R) (moment : ℕ) (after : SystemClock R) : Type 0 where
  pub told : after.told ≡ moment
  pub later : clock.told ≤ moment
  pub start : after.start ≡ clock.start
  pub failed : clock.failed ≡ true → after.failed ≡ true
