-- What an answer says of a permit.
use Rattle.std.proofs.Common.{◌≡◌, Bool, Ok, Err, sym, subst}
use Rattle.std.specs.Prelude.{Result, is_ok, OnOk, IfErr}
use Rattle.tk_core.specs.declared.reply.Refusal.{Refusal}
use Rattle.tk_core.specs.declared.reply.Reply.TheVariants.{Done, Refused}
use Rattle.tk_core.specs.ResourceMeaning.{resource_meaning}
use Rattle.tk_cell.specs.Calls.{Calls}
use Rattle.tk_ledgers.specs.Resources.{ResourceSight}
use Rattle.tk_exec_tests.specs.Permits.{takes_one, TakesOne}

-- a permit was taken exactly where the answer is not a refusal
pub took : (answer : Result (Unit {0}) Refusal) (taken : Bool) (old new : ResourceSight) → taken ≡ is_ok answer → OnOk answer (Calls resource_meaning old.token.view takes_one Done new.token.view)
    → IfErr answer (λ refusal. Calls resource_meaning old.token.view takes_one (Refused refusal) new.token.view) → TakesOne taken old new
took (Ok x) taken old new is ok err = subst (λ (b : Bool). TakesOne b old new) (sym is) ok
took (Err refusal) taken old new is ok err = subst (λ (b : Bool). TakesOne b old new) (sym is) (refusal, err)
