use Rattle.std.proofs.Common.{◌≡◌, ◌<◌, List, length, None}
use Rattle.tk_events.specs.declared.event.Event.{Event}
use Rattle.tk_aggregator.specs.Aggregates.{Gathers}
use Rattle.tk_aggregator.specs.Beside.{StaysRecorder}
use Rattle.tk_aggregator.proofs.aggregator.Aggregator.gather_beside.Given as goal

abbrev pub invariant-loop-count : goal.invariant-loop-count
invariant-loop-count g l = (taken : List Event) × Gathers l.fn.self l.fn.taker taken l.self l.taker × (length taken ≡ l.count) × (0 < l.count → l.self.held ≡ None)
    × (l.count ≡ 0 → (l.self ≡ l.fn.self) × (l.taker ≡ l.fn.taker))
    × StaysRecorder l.fn.recorder l.recorder
