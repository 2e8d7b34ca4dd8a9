use Rattle.std.proofs.Common.{◌≡◌, ◌++◌, take}
use Rattle.std.specs.Prelude.{filter}
use Rattle.tk_stream.specs.Lines.{is_new}
use Rattle.tk_stream.specs.Tables.{counts_id}
use Rattle.tk_client.specs.Applying.{Grown}
use Rattle.tk_client.proofs.counts.add_counts.Given as goal

-- the counts that went in so far
abbrev pub invariant-loop-id : goal.invariant-loop-id
invariant-loop-id l = record {
  added : l.tables ≡ record l.fn.tables { counts = l.fn.tables.counts ++ filter (is_new counts_id l.fn.tables.counts) (take l.id-index l.told) };
  grown : Grown l.fn.tables l.tables;
}
