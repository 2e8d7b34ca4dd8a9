-- A setting is said.
use Rattle.std.proofs.Common.{◌≡◌, Bool, true, List, [], ◌++◌, refl, sym, subst}
use Rattle.std.proofs.lemmas.List.{append-nil}
use Rattle.tk_stream.specs.Streams.{Sending}
use Rattle.tk_live.specs.Course.{Course}
use Rattle.tk_live.specs.Runs.{Represents}
use Rattle.tk_live.specs.declared.interpreter.Interpreter.{Interpreter}
use Rattle.tk_script.specs.declared.settings.Settings.{Settings}

module _ (i : Interpreter) (settings : Settings) (c : Course) (kept : List Bool) (sent : List Sending) (stands : Represents i settings c kept sent) where
  -- which settings were said
  said_so : (new : Interpreter) (d : Course) (capacity retention times waits : Bool) → new ≡ record i { capacity_said = capacity; retention_said = retention; times_said = times; waits_said = waits }
      → d ≡ record c { capacity_said = capacity; retention_said = retention; times_said = times; waits_said = waits } → Represents new settings d (kept ++ []) sent
  said_so new d capacity retention times waits is so =
      let now : Represents (record i { capacity_said = capacity; retention_said = retention; times_said = times; waits_said = waits }) settings (record c { capacity_said = capacity; retention_said = retention; times_said = times; waits_said = waits }) kept sent = record {
        came = stands.came;
        rise = stands.rise;
        offered = stands.offered;
        takes = stands.takes;
        taken = stands.taken;
        gone = stands.gone;
        has_told = stands.has_told;
        timed = stands.timed;
        holds = stands.holds;
        linked = stands.linked;
        polled = stands.polled;
        capacity_said = refl;
        retention_said = refl;
        times_said = refl;
        waits_said = refl;
        begun = stands.begun;
        times_is = stands.times_is;
      } in
      subst (λ (p : Interpreter × Course × List Bool). Represents p.0 settings p.1 p.2 sent) (λ j. (sym is j, sym so j, sym (append-nil kept) j)) now

  pub capacity_told : Represents (record i { capacity_said = true }) settings (record c { capacity_said = true }) (kept ++ []) sent
  capacity_told = said_so _ _ true c.retention_said c.times_said c.waits_said (λ j. record i { capacity_said = true; retention_said = stands.retention_said j; times_said = stands.times_said j; waits_said = stands.waits_said j }) refl

  pub retention_told : Represents (record i { retention_said = true }) settings (record c { retention_said = true }) (kept ++ []) sent
  retention_told = said_so _ _ c.capacity_said true c.times_said c.waits_said (λ j. record i { capacity_said = stands.capacity_said j; retention_said = true; times_said = stands.times_said j; waits_said = stands.waits_said j }) refl

  pub times_told : Represents (record i { times_said = true }) settings (record c { times_said = true }) (kept ++ []) sent
  times_told = said_so _ _ c.capacity_said c.retention_said true c.waits_said (λ j. record i { capacity_said = stands.capacity_said j; retention_said = stands.retention_said j; times_said = true; waits_said = stands.waits_said j }) refl

  pub waits_told : Represents (record i { waits_said = true }) settings (record c { waits_said = true }) (kept ++ []) sent
  waits_told = said_so _ _ c.capacity_said c.retention_said c.times_said true (λ j. record i { capacity_said = stands.capacity_said j; retention_said = stands.retention_said j; times_said = stands.times_said j; waits_said = true }) refl
