use Rattle.std.proofs.Common.{◌≡◌, take}
use Rattle.tk_series.specs.Limited.{names_of}
use Rattle.tk_compare.specs.Names.{texts}
use Rattle.tk_compare.proofs.places.own_names.Given as goal

-- those so far were put
abbrev pub invariant-loop-at : goal.invariant-loop-at
invariant-loop-at l = texts l.list.items ≡ names_of (take l.at l.sites.first)
