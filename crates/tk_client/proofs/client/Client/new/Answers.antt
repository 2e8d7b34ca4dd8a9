use Rattle.std.proofs.Common.{◌≡◌, Ok, Err}
use Rattle.std.specs.Prelude.{Result, IfErr, IsErrAnd}
use Rattle.tk_client.specs.declared.fault.Fault.{Fault}
use Rattle.tk_client.specs.declared.fault.Fault.TheVariants.{Memory}
use Rattle.tk_client.proofs.client.Client.new.Goals as goal

-- a fault that is known is the one that an error has
known : {A : Type 0} (r : Result A Fault) (P : Fault → Type 0) → IsErrAnd r P → ((fault : Fault) → P fault → fault ≡ Memory) → IfErr r (λ fault. fault ≡ Memory)
known (Ok a) P is from = tt
known (Err fault) P is from = from fault is

pub returns-in_err-part-clause-memory : goal.returns-in_err-part-clause-memory
returns-in_err-part-clause-memory c = known c.from_residual-in_err-part.result _ c.from_residual-in_err-part.ensures.1 (λ fault is. is)
