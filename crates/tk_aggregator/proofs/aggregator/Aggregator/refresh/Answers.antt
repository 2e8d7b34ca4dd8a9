use Rattle.tk_aggregator.specs.Aggregates.{Refreshes}
use Rattle.tk_aggregator.proofs.RefreshLemmas.{refreshes, refreshes_later, refreshes_infos, refreshes_stays}
use Rattle.tk_aggregator.proofs.aggregator.Aggregator.refresh.Given.{Over}
use Rattle.tk_aggregator.proofs.aggregator.Aggregator.refresh.Goals as goal

all : (g : Over) (c : goal.After-refresh_times g) → Refreshes c.args.self.now c.refresh_times.new.self
all g c = refreshes c.args.self.now c.refresh_tasks.new.self c.refresh_resources.new.self c.refresh_ops.new.self c.refresh_times.new.self c.refresh_tasks.ensures c.refresh_resources.ensures c.refresh_ops.ensures c.refresh_times.ensures

pub returns-clause-reads : goal.returns-clause-reads
returns-clause-reads g c = all g c

pub returns-clause-later : goal.returns-clause-later
returns-clause-later g c = refreshes_later c.args.self.now c.refresh_times.new.self c.tables.ensures.sound (all g c)

pub returns-clause-stays : goal.returns-clause-stays
returns-clause-stays g c = refreshes_stays c.args.self.now c.refresh_times.new.self c.tables.ensures.sound (all g c)

pub returns-clause-same_infos : goal.returns-clause-same_infos
returns-clause-same_infos g c = refreshes_infos c.args.self.now c.refresh_times.new.self c.tables.ensures.sound (all g c)
