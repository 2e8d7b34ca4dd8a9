-- What an accepted call says of the refusals that did not apply.
use Rattle.std.proofs.Common.{◌≡◌, Bool, true, false, cond, Option, Some, None, refl}
use Rattle.tk_core.specs.Fold.{is_accepted, refused_or}
use Rattle.tk_core.specs.declared.reply.Refusal.{Refusal}
use Rattle.tk_core.specs.declared.reply.Reply.{Reply}

-- an accepted call met no refusal
pub accepted_frees : {Row : Type 0} (o : Option Refusal) (reply : Reply Row) → is_accepted (refused_or o reply) ≡ true → o ≡ None
accepted_frees None reply e = refl
accepted_frees (Some r) reply e = absurd cc

-- where none of three applies, the last doesn't
pub last_of_three : (a b : Bool) (x y : Refusal) (z : Option Refusal) → cond a (Some x) (cond b (Some y) z) ≡ None → z ≡ None
last_of_three true b x y z e = absurd cc
last_of_three false true x y z e = absurd cc
last_of_three false false x y z e = e

some≢none : (y : Refusal) → Some y ≡ None → ⊥
some≢none y e = cc

-- where none of five applies, the last doesn't
pub last_of_five : (a b c d : Bool) (w x y z : Refusal) (o : Option Refusal) → cond a (Some w) (cond b (Some x) (cond c (Some y) (cond d (Some z) o))) ≡ None → o ≡ None
last_of_five a b true d w x y z o e = absurd (some≢none y (last_of_three a b w x (Some y) e))
last_of_five a b false d w x y z o e = last_of_three d false z z o (last_of_three a b w x (cond d (Some z) o) e)
