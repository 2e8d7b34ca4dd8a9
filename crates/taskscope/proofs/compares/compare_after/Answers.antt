use Rattle.std.specs.Prelude.{Ok}
use Rattle.taskscope.proofs.compares.compare_after.Goals as goal

pub returns-in-Ok-clause-does : goal.returns-in-Ok-clause-does
returns-in-Ok-clause-does g c = record {
  after = Ok c.in-Ok.after;
  reads = c.in-Ok.ensures;
  compares = c.show_changes.ensures.does;
}
