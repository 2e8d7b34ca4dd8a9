-- What one call makes of an aggregator that takes events in, reads the ledgers, and publishes.
use Rattle.std.proofs.Common.{◌≡◌, ℕ, ◌<◌, false, true, Option, Some, None, refl, ap, ◌∙◌, arith}
use Rattle.tk_events.specs.Handles.{Taking}
use Rattle.tk_aggregator.specs.Absorbing.{infos_of}
use Rattle.tk_aggregator.specs.Finished.{HoldKept}
use Rattle.tk_aggregator.specs.Aggregates.{Aggregating, Collects, Refreshes, IsLaterOf, IsSameStream, FollowsTaker, pruned, having_told, after_line}
use Rattle.tk_aggregator.specs.Publishing.{CatchesUp}
use Rattle.tk_aggregator.proofs.FollowLemmas.{then_same, same_follows}
use Rattle.tk_aggregator.proofs.HoldLemmas.{follows_kept}
use Rattle.tk_aggregator.proofs.LaterLemmas.{then_later}

-- what a refresh after a collect makes
pub caught_up : (a : Aggregating) (t : Taking) (limit count : ℕ) (b : Aggregating) (u : Taking) (c : Aggregating) → Collects a t limit count b u → Refreshes b c
    → infos_of c.tables ≡ infos_of b.tables → IsLaterOf a b → IsLaterOf b c → IsSameStream a b → IsSameStream b c → CatchesUp a t limit count c u
caught_up a t limit count b u c collects refreshes same later_b later_c stays_b stays_c = record {
  collected = b;
  collects = collects;
  refreshes = refreshes;
  same_infos = same;
  later = then_later a b c later_b later_c;
  stays = then_same a b c stays_b stays_c;
}

-- what is read is followed as before
pub refresh_follows : (b c : Aggregating) (u : Taking) → infos_of c.tables ≡ infos_of b.tables → c.held ≡ b.held → IsSameStream b c → FollowsTaker b u → FollowsTaker c u
refresh_follows b c u same held stays f = same_follows b c u held stays.retention same f

-- a line leaves the held event
line_held : (a : Aggregating) (now : ℕ) → (after_line false a now).held ≡ a.held
line_held a now = by a.retention
  where
    by : (o : Option ℕ) → (having_told (pruned o a now) now).held ≡ a.held
    by None = refl
    by (Some retention) = refl

-- what was kept is there after the line of what was collected and read
pub line_kept : (a : Aggregating) (t : Taking) (limit count : ℕ) (b : Aggregating) (u : Taking) → Collects a t limit count b u → t.finished ≡ true → count < limit
    → (c : Aggregating) → c.held ≡ b.held → (now : ℕ) (d : Aggregating) → d ≡ after_line false c now → FollowsTaker d u → HoldKept d.retention (infos_of d.tables) u.known
line_kept a t limit count b u k finished below c held now d is follows =
    follows_kept a t limit count b u k finished below d follows
    (ap (λ (x : Aggregating). x.held) is ∙ line_held c now ∙ held ∙ (ap (λ (x : Aggregating). x.held) k.now ∙ k.gathering.none_held (omega (arith, below))))
