use Rattle.std.proofs.Common.{Some, refl, sym, ap, ◌∙◌, subst}
use Rattle.std.specs.List.{AllByRecursion}
use Rattle.tk_aggregator.specs.Aggregates.{Aggregating}
use Rattle.tk_ledgers.specs.Ops.{OpSight}
use Rattle.tk_ledgers.specs.Resources.{ResourceSight}
use Rattle.tk_ledgers.specs.Times.{TimesSight}
use Rattle.tk_live.specs.Items.{IsSameTask, times_ledger_of}
use Rattle.tk_live.specs.Runs.{IsTimesLedger, IsResourceLedger, IsOpLedger}
use Rattle.tk_live.proofs.Rows.{all_so, still_of}
use Rattle.tk_live.proofs.interpreter.Interpreter.read_items.Goals as goal

pub read_tasks-requires : goal.read_tasks-requires
read_tasks-requires g c = record { known = (c.requires.pasts.tasks, c.requires.holds.tasks_are.tasks_are); linked = c.requires.tasks }

pub read_resources-requires : goal.read_resources-requires
read_resources-requires g c = record {
  known = (c.requires.pasts.resources, c.requires.holds.resources_are);
  linked = subst (λ ss. AllByRecursion (λ (s : ResourceSight). IsResourceLedger c.args.self.now.resources.items s.id s.token.ledger) ss) (sym (ap (λ (a : Aggregating). a.resources) c.read_tasks.ensures.rest)) c.requires.resources;
}

pub read_ops-requires : goal.read_ops-requires
read_ops-requires g c = record {
  known = (c.requires.pasts.ops, c.requires.holds.ops_are);
  linked = subst (λ ss. AllByRecursion (λ (s : OpSight). IsOpLedger c.args.self.now.ops.items s.id s.token.ledger) ss)
      (sym (ap (λ (a : Aggregating). a.ops) c.read_resources.ensures.rest ∙ ap (λ (a : Aggregating). a.ops) c.read_tasks.ensures.rest)) c.requires.ops;
}

pub read_times-requires : goal.read_times-requires
read_times-requires g c = record {
  known = (c.requires.pasts.tasks, c.read_tasks.ensures.hands c.requires.pasts.tasks c.requires.holds.tasks_are.tasks_are);
  linked =
      let same = ap (λ (a : Aggregating). a.timing.readers) c.read_ops.ensures.rest ∙ (ap (λ (a : Aggregating). a.timing.readers) c.read_resources.ensures.rest ∙ ap (λ (a : Aggregating). a.timing.readers) c.read_tasks.ensures.rest) in
      subst (λ ss. AllByRecursion (λ (s : TimesSight). IsTimesLedger c.read_tasks.new.tasks.items s.id s.token.ledger) ss) (sym same)
      (all_so (λ (s : TimesSight). IsTimesLedger c.args.self.now.tasks.items s.id s.token.ledger) (λ (s : TimesSight). IsTimesLedger c.read_tasks.new.tasks.items s.id s.token.ledger) (λ s is.
      still_of times_ledger_of IsSameTask (λ x y same. same.times) c.args.self.now.tasks.items c.read_tasks.new.tasks.items c.read_tasks.ensures.same s.id (Some s.token.ledger) is) c.args.self.now.aggregator.timing.readers c.requires.times);
}

pub returns : goal.returns
returns g c = record {
  tasks_then = c.read_tasks.new.aggregator;
  resources_then = c.read_resources.new.aggregator;
  ops_then = c.read_ops.new.aggregator;
  tasks = c.read_tasks.ensures;
  resources = c.read_resources.ensures;
  ops = c.read_ops.ensures;
  items_then = c.read_tasks.new.tasks.items;
  times = c.read_times.ensures;
  rest = refl;
}
