-- What collecting beside a recorder leaves.
use Rattle.std.proofs.Common.{ℕ, ap, sym, ◌∙◌, subst}
use Rattle.tk_events.specs.Handles.{Recording, Taking}
use Rattle.tk_aggregator.specs.Aggregates.{Aggregating, TookMore, IsLaterOf, IsSameStream}
use Rattle.tk_aggregator.specs.Beside.{CollectsBeside}
use Rattle.tk_aggregator.proofs.FollowLemmas.{gathers_stays}
use Rattle.tk_aggregator.proofs.GatherLemmas.{gathers_took}
use Rattle.tk_aggregator.proofs.LaterLemmas.{gathers_later}

module _ (r : Recording) (a : Aggregating) (t : Taking) (limit count : ℕ) (b : Aggregating) (u : Taking) (k : CollectsBeside r a t limit count b u) where
  pub collected_later : IsLaterOf a b
  collected_later =
      let s = gathers_later a t k.gathering.taken k.gathered k.taker k.gathering.gathers in
      subst (λ (x : Aggregating). IsLaterOf a x) (sym k.now) (record {
        items = record { tasks = s.items.tasks; resources = s.items.resources; ops = s.items.ops; counts = s.items.counts };
        tasks = s.tasks;
        resources = s.resources;
        ops = s.ops;
        times = s.times;
        readers = s.readers;
      })

  pub collected_stays : IsSameStream a b
  collected_stays =
      let s = gathers_stays a t k.gathering.taken k.gathered k.taker k.gathering.gathers in
      record {
        told = ap (λ x. x.told) k.now ∙ s.told;
        last = ap (λ x. x.last) k.now ∙ s.last;
        broken = ap (λ x. x.broken) k.now ∙ s.broken;
        now = ap (λ x. x.tables.now) k.now ∙ s.now;
        retention = ap (λ x. x.retention) k.now ∙ s.retention;
        reads = ap (λ x. x.timing.reads) k.now ∙ s.reads;
        times_told = ap (λ x. x.timing.told) k.now ∙ s.times_told;
      }

  pub collected_took : TookMore t u
  collected_took =
      let m = gathers_took a t k.gathering.taken k.gathered k.taker k.gathering.gathers in
      let e = k.totals.same in
      record {
        console = ap (λ (x : Taking). x.console) e ∙ m.console;
        capacity = ap (λ (x : Taking). x.capacity) e ∙ m.capacity;
        recorders = ap (λ (x : Taking). x.recorders) e ∙ m.recorders;
        known = ap (λ (x : Taking). x.known) e ∙ m.known;
        finished = ap (λ (x : Taking). x.finished) e ∙ m.finished;
      }
