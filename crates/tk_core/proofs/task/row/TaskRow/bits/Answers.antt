use Rattle.std.proofs.Common.{◌≡◌, Bool, true, false, cond, arith, refl}
use mir.Val.{bool_byte}
use Rattle.tk_core.proofs.task.row.TaskRow.bits.Goals as goal

byte_is : (b : Bool) → bool_byte b ≡ cond b 1 0
byte_is true = refl
byte_is false = refl

pub returns-clause-value : goal.returns-clause-value
returns-clause-value c = grind (arith, byte_is)
