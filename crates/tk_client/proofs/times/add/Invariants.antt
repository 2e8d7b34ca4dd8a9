use Rattle.std.proofs.Common.{◌≡◌, ◌++◌, take}
use Rattle.std.specs.Prelude.{filter}
use Rattle.tk_stream.specs.Lines.{is_new}
use Rattle.tk_stream.specs.Times.{times_id}
use Rattle.tk_client.specs.Applying.{Begins}
use Rattle.tk_client.proofs.times.add.Given as goal

-- the histograms that went in so far
abbrev pub invariant-loop-one : goal.invariant-loop-one
invariant-loop-one l = record {
  added : l.times ≡ l.fn.times ++ filter (is_new times_id l.fn.times) (take l.one-index l.told);
  grown : Begins l.fn.times l.times;
}
