-- A stream that is followed line by line.
use Rattle.std.proofs.Common.{◌≡◌, ℕ, ◌≤◌, List, [], ◌∷◌, ◌++◌, ◌∙◌, length, Option, false, refl, ap, subst, sym}
use Rattle.std.specs.Prelude.{Result}
use Rattle.tk_client.specs.Changes.{Timed, untimed}
use Rattle.tk_client.specs.Feeding.{ClientView}
use Rattle.tk_client.specs.Meaning.{greatest_line}
use Rattle.tk_client.specs.declared.fault.Fault.{Fault}
use Rattle.tk_fault.specs.declared.fault.AppFault.{AppFault}
use Rattle.tk_odd.specs.declared.limits.Limits.{Limits}
use Rattle.tk_reading.specs.Outcomes.{LeadTo}
use Rattle.tk_reading.specs.Reads.{Reads as ReadsOf, TakesMore as Takes}
use Rattle.tk_reading.specs.Shown.{last_timed, timed_of}
use Rattle.tk_reading.specs.Taken.{HasTaken}
use Rattle.tk_reading.proofs.ReadLemmas.{lead_of as leads}
use Rattle.tk_reading.proofs.ShownLemmas.{last_taken}
use Rattle.tk_metrics.specs.Following.{Reads, SawAll, StopsAfter, TakesMore, Watches, saw_by}
use Rattle.tk_metrics.specs.declared.apart.Apart.{Apart}
use Rattle.tk_metrics.specs.declared.follower.Follower.{Follower}

-- all bytes lead to the client's tables
abbrev pub lead_of : (by : Apart) (limits : Limits) (given : Option (List ℕ)) (now : ClientView) (f : Follower) → SawAll by limits given now f → LeadTo given now.start.tables
lead_of by limits given now f all = leads (saw_by by limits) given now f all

-- what follows by its own settings follows by those
module _ (by : Apart) (limits : Limits) (was : Follower) (told : was.leavers.by ≡ by) (same : was.diagnosis.limits ≡ limits) where
  pub own_watch : (bytes : List ℕ) → Watches by limits bytes was → Watches was.leavers.by was.diagnosis.limits bytes was
  own_watch bytes h = subst (λ l. Watches was.leavers.by l bytes was) (sym same) (subst (λ b. Watches b limits bytes was) (sym told) h)

  pub by_takes : (bytes piece : List ℕ) (r : Result ℕ AppFault) (now : ClientView) (f : Follower) → Takes (saw_by was.leavers.by was.diagnosis.limits) bytes piece r now f
      → TakesMore by limits bytes piece r now f
  by_takes bytes piece r now f h = subst (λ l. TakesMore by l bytes piece r now f) same (subst (λ b. TakesMore b was.diagnosis.limits bytes piece r now f) told h)

  pub by_reads : (given left : Option (List ℕ)) (r : Result (Unit {0}) AppFault) (now : ClientView) (f : Follower) → ReadsOf (saw_by was.leavers.by was.diagnosis.limits) given left r now f
      → Reads by limits given left r now f
  by_reads given left r now f h = subst (λ l. Reads by l given left r now f) same (subst (λ b. Reads b was.diagnosis.limits given left r now f) told h)

-- ---- the last tables

-- those of a client that has taken bytes
pub last_of : (bytes : List ℕ) (lines : ℕ) (now : ClientView) → HasTaken bytes lines now → now.start.tables ≡ (last_timed untimed (timed_of bytes)).0
last_of bytes lines now taken = sym (ap (λ (t : Timed). t.0) (last_taken bytes lines now taken))

-- and of one that has stopped after a part of a piece
pub last_stopped : (by : Apart) (limits : Limits) (bytes piece : List ℕ) (lines : ℕ) (fault : Fault) (now : ClientView) (f : Follower) (s : StopsAfter by limits bytes piece lines fault now f)
    → now.start.tables ≡ (last_timed untimed (timed_of (bytes ++ s.part))).0
last_stopped by limits bytes piece lines fault now f s =
    let at : ClientView = record { start = s.start; has_failed = false; max_line = greatest_line } in
    s.tables ∙ last_of (bytes ++ s.part) lines at (record { took = record { came = s.come; sound = refl }; limit = refl })
