use Rattle.std.proofs.Common.{◌≡◌, take}
use Rattle.tk_stream.specs.Applied.{counts_after}
use Rattle.tk_client.proofs.counts.tell_counts.Given as goal

-- the counts that are told so far
abbrev pub invariant-loop-id : goal.invariant-loop-id
invariant-loop-id l = l.tables ≡ record l.fn.tables { counts = counts_after l.fn.tables.counts (take l.id-index l.told) }
