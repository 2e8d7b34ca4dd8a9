use Rattle.std.proofs.Common.{◌≡◌, drop}
use Rattle.tk_series.specs.Series.{is_seen}
use Rattle.tk_compare.specs.Names.{texts}
use Rattle.tk_compare.proofs.names.is_among.Given as goal

-- those that are left decide
abbrev pub invariant-loop-other : goal.invariant-loop-other
invariant-loop-other l = is_seen (texts (drop l.other-index l.names)) l.name ≡ is_seen (texts l.names) l.name
