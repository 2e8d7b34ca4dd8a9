-- An interpreter before any command.
use Rattle.std.proofs.Common.{◌≡◌, ◌<◌, ℕ, Bool, true, false, cond, List, [], Option, Some, None, refl, arith, subst, sym}
use Rattle.std.specs.Prelude.{nat_lt, option_and_then}
use Rattle.tk_events.specs.declared.item.Offer.{Offer}
use Rattle.tk_aggregator.specs.Aggregates.{Aggregating, new_aggregating}
use Rattle.tk_aggregator.specs.Timing.{no_timing}
use Rattle.tk_live.specs.Items.{Holds}
use Rattle.tk_live.specs.Named.{live_item}
use Rattle.tk_live.specs.Pasts.{no_pasts}
use Rattle.tk_live.specs.Ran.{TellOf}
use Rattle.tk_live.specs.Runs.{AreLinked, HasTold}
use Rattle.tk_live.specs.declared.items.OpItem.{OpItem}
use Rattle.tk_live.specs.declared.items.ResourceItem.{ResourceItem}
use Rattle.tk_live.specs.declared.items.TaskItem.{TaskItem}
use Rattle.tk_live.specs.declared.items.WakerItem.{WakerItem}
use Rattle.tk_script.specs.declared.settings.Settings.{Settings}

-- nothing was recorded, and no line was due
pub tells_nothing : (settings : Settings) → TellOf settings [] [] [] []
tells_nothing settings = record { one_each = refl; first = λ i lt low. absurd (omega (arith, lt)); lines = tt; stream = tt }

-- and the aggregator has told nothing
pub has_told_nothing : (settings : Settings) (a : Aggregating) → a ≡ record (new_aggregating 0 settings.retention) { timing = no_timing settings.times } → HasTold a settings 0 0 []
has_told_nothing settings a is = subst (λ (x : Aggregating). HasTold x settings 0 0 []) (sym is) (record {
  retention_is = refl;
  reads = refl;
  told = refl;
  times_told = refl;
  last = refl;
  none_held = refl;
  infos = refl;
  times = λ timed. refl;
  moment = refl;
  numbers = refl;
  going = refl;
})

no_waker : (w : ℕ) (a : WakerItem) → live_item w [] ≡ Some a → ⊥
no_waker w a e = by (nat_lt 0 w) e
  where
    by : (b : Bool) → option_and_then (λ (o : Option WakerItem). o) (cond b None None) ≡ Some a → ⊥
    by true h = absurd cc
    by false h = absurd cc

-- no item was made
pub holds_nothing : (tasks : List TaskItem) (wakers : List (Option WakerItem)) (resources : List ResourceItem) (ops : List OpItem) → tasks ≡ [] → wakers ≡ [] → resources ≡ [] → ops ≡ [] → Holds tasks wakers resources ops no_pasts
holds_nothing tasks wakers resources ops t w r o =
    subst (λ (l : List TaskItem × List (Option WakerItem) × List ResourceItem × List OpItem). Holds l.0 l.1 l.2 l.3 no_pasts) (λ j. (sym t j, sym w j, sym r j, sym o j)) (record {
      tasks_are = record {
        tasks_are = tt;
        wakers_are = refl;
        are_live = record {
          live = λ w a at. absurd (no_waker w a at);
          apart = λ v w a b at there same number. absurd (no_waker v a at);
        };
      };
      resources_are = tt;
      ops_are = tt;
    })

-- and none is read
pub links_nothing : (tasks : List TaskItem) (resources : List ResourceItem) (ops : List OpItem) (kept : List Offer) (settings : Settings) (a : Aggregating) → kept ≡ [] → a ≡ record (new_aggregating 0 settings.retention) { timing = no_timing settings.times } → AreLinked tasks resources ops kept a
links_nothing tasks resources ops kept settings a none is =
    subst (λ (p : List Offer × Aggregating). AreLinked tasks resources ops p.0 p.1) (λ j. (sym none j, sym is j)) (record { offers = tt; task_readers = tt; times_readers = tt; resource_readers = tt; op_readers = tt })
