use Rattle.std.proofs.Common.{◌≤◌, vec_len}
use Rattle.std.specs.Io.KnownBytes.{Consumes}
use Rattle.tk_live.specs.declared.transfer.TheConstants.{MAX_SCRIPT}
use Rattle.tk_live.proofs.transfer.read_script.Given as goal

-- what was read so far
abbrev pub invariant-loop : goal.invariant-loop
invariant-loop g l = Consumes (g.R.Read.remaining l.fn.reader) (g.R.Read.remaining l.reader) l.script.items × (vec_len l.script ≤ MAX_SCRIPT)
