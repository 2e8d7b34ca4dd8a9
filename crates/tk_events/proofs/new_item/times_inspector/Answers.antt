use Rattle.std.proofs.Common.{sym, ◌∙◌}
use Rattle.tk_events.proofs.NewItemLemmas.{new_inspected, new_refused}
use Rattle.tk_events.proofs.new_item.times_inspector.Goals as goal

pub unreachable-requires : goal.unreachable-requires
unreachable-requires g c = new_refused c.args.owner.now.id c.args.owner.now.times c.inspect_times.new.self.times c.requires c.in-Some-Err.refusal
    (rw c.in-Some-Err.field-0-is at c.in-Some-Err.ensures.times)
    (λ e. let told = sym c.ne.ensures ∙ c.if-ne.true in let false_is_true = rw e at told in absurd cc)

pub returns-in-Some-Ok-clause-owner : goal.returns-in-Some-Ok-clause-owner
returns-in-Some-Ok-clause-owner g c = (new_inspected c.args.owner.now.id c.args.owner.now.times c.inspect_times.new.self.times c.requires c.in-Some-Ok.times (rw c.in-Some-Ok.field-0-is at c.in-Some-Ok.ensures.times)).0

pub returns-in-Some-Ok-clause-inspector : goal.returns-in-Some-Ok-clause-inspector
returns-in-Some-Ok-clause-inspector g c = (new_inspected c.args.owner.now.id c.args.owner.now.times c.inspect_times.new.self.times c.requires c.in-Some-Ok.times (rw c.in-Some-Ok.field-0-is at c.in-Some-Ok.ensures.times)).1
