-- What holds inside an aggregator says that it is sound.
use Rattle.std.proofs.Common.{◌≡◌, ℕ, List, [], ◌∷◌, false, refl}
use Rattle.std.specs.Prelude.{Option, Bool, map, nat_eq}
use Rattle.std.specs.List.{AllByRecursion, IsDistinct}
use Rattle.tk_events.specs.declared.event.Event.{Event}
use Rattle.tk_ledgers.specs.Ops.{OpSight}
use Rattle.tk_ledgers.specs.Resources.{ResourceSight}
use Rattle.tk_ledgers.specs.Tasks.{TaskSight}
use Rattle.tk_aggregator.specs.Aggregates.{Aggregating, IsSound, Pairs, ReadResource, ReadOp}
use Rattle.tk_stream.specs.Fronts.{ToldView, told_tables}
use Rattle.tk_aggregator.specs.Standing.{IsStanding, TimesStand, ResourceFits, OpFits}
use Rattle.tk_stream.specs.Streams.{AreInRange}
use Rattle.tk_ids.specs.Attributes.{HaveKinds}
use Rattle.tk_stream.specs.Tables.{TablesView, AreDistinct}
use Rattle.tk_stream.specs.declared.tables.op.Op.{Op}
use Rattle.tk_stream.specs.declared.tables.resource.Resource.{Resource}
use Rattle.tk_stream.proofs.PruneLemmas.{told_begin}
use Rattle.tk_aggregator.proofs.HandleLemmas.{resource_fits, op_fits}
use Rattle.tk_aggregator.specs.Timing.{TimingView, no_timing, ReadTimes}
use Rattle.tk_ledgers.specs.Times.{TimesSight}
use Rattle.tk_stream.specs.Applied.{times_kind, BeginWith}
use Rattle.tk_stream.specs.Ranges.{AreTimes}
use Rattle.tk_stream.specs.Times.{TaskTimes, times_id}

resources_have_kinds : (xs : List Resource) (ss : List ResourceSight) → Pairs ReadResource xs ss → Pairs ResourceFits xs ss → AllByRecursion (λ (r : Resource). HaveKinds r.info.attrs r.row.attrs) xs
resources_have_kinds [] ss read fit = tt
resources_have_kinds (x ∷ xs) [] read fit = absurd read
resources_have_kinds (x ∷ xs) (s ∷ ss) read fit =
    (resource_fits s x.row x.info.attrs read.0.1 fit.0.1.0 fit.0.1.1 fit.0.1.2, resources_have_kinds xs ss read.1 fit.1)

ops_have_kinds : (xs : List Op) (ss : List OpSight) → Pairs ReadOp xs ss → Pairs OpFits xs ss → AllByRecursion (λ (o : Op). HaveKinds o.info.attrs o.row.attrs) xs
ops_have_kinds [] ss read fit = tt
ops_have_kinds (x ∷ xs) [] read fit = absurd read
ops_have_kinds (x ∷ xs) (s ∷ ss) read fit =
    (op_fits s x.row x.info.attrs read.0.1 fit.0.1.0 fit.0.1.1 fit.0.1.2, ops_have_kinds xs ss read.1 fit.1)

-- what histograms show of themselves
pub record SeenTimes (t : TimingView) : Type 0 where
  pub distinct : IsDistinct nat_eq (map times_id t.shown)
  pub in_range : AllByRecursion AreTimes t.shown
  pub begins : BeginWith times_kind t.told t.shown
  pub unread : t.reads ≡ false → t.shown ≡ []

no_readers : (ts : List TaskTimes) (ss : List TimesSight) → ts ≡ [] → Pairs ReadTimes ts ss → ss ≡ []
no_readers ts [] e p = refl
no_readers [] (s ∷ ss) e p = absurd p
no_readers (t ∷ ts) (s ∷ ss) e p = absurd cc

none_began : (told shown : List TaskTimes) → shown ≡ [] → BeginWith times_kind told shown → told ≡ []
none_began [] shown e b = refl
none_began (t ∷ told) [] e b = absurd b
none_began (t ∷ told) (s ∷ shown) e b = absurd cc

-- where none is read there is none
none_timed : (t : TimingView) → t.reads ≡ false → t.shown ≡ [] → Pairs ReadTimes t.shown t.readers → BeginWith times_kind t.told t.shown → t ≡ no_timing false
none_timed t reads none pairs begins = λ i. record { reads = reads i; shown = none i; told = none_began t.told t.shown none begins i; readers = no_readers t.shown t.readers none pairs i }

-- the aggregator of these parts
abbrev pub whole : TablesView → ToldView → List TaskSight → List ResourceSight → List OpSight → Option Event → ℕ → Bool → Option ℕ → TimingView → Aggregating
whole shown telling tasks resources ops held last broken retention timing = record { tables = shown; told = told_tables telling shown; tasks = tasks; resources = resources; ops = ops; held = held; last = last; broken = broken; retention = retention; timing = timing }

pub sound : (shown : TablesView) (telling : ToldView) (tasks : List TaskSight) (resources : List ResourceSight) (ops : List OpSight) (held : Option Event) (last : ℕ) (broken : Bool) (retention : Option ℕ) (timing : TimingView)
    → IsStanding shown telling tasks resources ops held last → TimesStand shown.tasks timing → AreDistinct shown → AreInRange shown → SeenTimes timing → IsSound (whole shown telling tasks resources ops held last broken retention timing)
sound shown telling tasks resources ops held last broken retention timing stands times distinct in_range seen = record {
  tasks = stands.tasks;
  resources = stands.resources;
  ops = stands.ops;
  fit = record { distinct = distinct; resources = resources_have_kinds shown.resources resources stands.resources stands.resources_fit; ops = ops_have_kinds shown.ops ops stands.ops stands.ops_fit };
  in_range = in_range;
  on = told_begin telling shown stands.fits;
  moment = refl;
  first = stands.first;
  numbered = stands.numbered;
  times = times.pairs;
  times_fit = record { each = seen.in_range; known = times.known; once = seen.distinct };
  times_on = seen.begins;
  untimed = λ none. none_timed timing none (seen.unread none) times.pairs seen.begins;
}
