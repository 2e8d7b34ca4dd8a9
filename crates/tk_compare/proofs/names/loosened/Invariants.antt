use Rattle.std.proofs.Common.{◌≡◌, take}
use Rattle.tk_compare.specs.Names.{loosened, texts}
use Rattle.tk_compare.proofs.names.loosened.Given as goal

-- those so far were put
abbrev pub invariant-loop-at : goal.invariant-loop-at
invariant-loop-at l = texts l.loose.items ≡ loosened (texts l.own) (texts (take l.at l.others))
