use Rattle.std.specs.Prelude.{Err}
use Rattle.std.proofs.Common.{refl}
use Rattle.taskscope.proofs.compares.compare_streams.Goals as goal

pub returns-in-Err-clause-does : goal.returns-in-Err-clause-does
returns-in-Err-clause-does g c = record {
  before = Err c.in-Err.fault;
  rest = g.F.Read.remaining c.read_recorded.new.reader;
  reads = c.in-Err.ensures;
  compares = (c.tell_fault_of.ensures, (refl, refl));
}
