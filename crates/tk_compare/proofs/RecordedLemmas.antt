-- What reading a stream comes to, for a comparison.
use Rattle.std.proofs.Common.{◌≡◌, ℕ, List, [], ◌++◌, map, Option, true, ap, ◌∙◌}
use Rattle.std.proofs.lemmas.List.{map-append}
use Rattle.tk_stream.specs.Tables.{TablesView}
use Rattle.tk_client.specs.Changes.{Timed}
use Rattle.tk_client.specs.Feeding.{ClientView}
use Rattle.tk_reading.specs.Reads.{SawAll}
use Rattle.tk_reading.specs.Shown.{shown_of, tables_of, timed_of}
use Rattle.tk_odd.specs.declared.diagnosis.Diagnosis.{Diagnosis}
use Rattle.tk_odd.specs.declared.finding.Found.{Found}
use Rattle.tk_odd.specs.declared.limits.Limits.{Limits}
use Rattle.tk_odd.specs.Diagnosis.{standing_of}
use Rattle.tk_odd.specs.Findings.{findings_of, placed}
use Rattle.tk_odd.specs.Inner.{Follows as FollowsOdd}
use Rattle.tk_sites.specs.Inner.{Follows, FollowsTimes}
use Rattle.tk_sites.specs.Sites.{sites_of}
use Rattle.tk_sites.specs.TimedSites.{timed_sites}
use Rattle.tk_sites.specs.declared.sites.Sites.{Sites}
use Rattle.tk_sites.specs.declared.timed_sites.TimedSites.{TimedSites}
use Rattle.tk_compare.specs.Recorded.{IsRecorded, finding_name, names_kept}
use Rattle.tk_compare.specs.declared.recorded.Recorded.{Recorded}

-- the names of findings, as they are answered
abbrev pub names_of_found : List Found → List (List ℕ)
names_of_found xs = map finding_name (map placed xs)

pub names-append : (xs ys : List Found) → names_of_found (xs ++ ys) ≡ names_of_found xs ++ names_of_found ys
names-append xs ys = ap (map finding_name) (map-append placed xs ys) ∙ map-append finding_name (map placed xs) (map placed ys)

-- all bytes of a stream come to what was kept, if what watched its lines has seen them
pub records_all : {O : Type 0} {saw : List Timed → O → Type 0} {given : Option (List ℕ)} {client : ClientView} {it : O} → SawAll saw given client it
    → (limits : Limits) (sites : Sites) (timed : TimedSites) (diagnosis : Diagnosis) (r : Recorded)
    → ((seen : List Timed) → saw seen it
    → Follows (tables_of seen) sites × FollowsTimes true seen timed × FollowsOdd (tables_of seen) diagnosis × (diagnosis.limits ≡ limits))
    → r.span ≡ client.start.tables.now
    → ((shown : List TablesView) → Follows shown sites → r.sites ≡ sites_of shown client.start.tables [])
    → ((seen : List Timed) → FollowsTimes true seen timed → r.times ≡ timed_sites seen client.start.tables client.start.times)
    → ((shown : List TablesView) → FollowsOdd shown diagnosis → r.held ≡ (standing_of diagnosis.limits shown).places.0)
    → ((shown : List TablesView) → FollowsOdd shown diagnosis
    → names_kept r ≡ map finding_name (findings_of diagnosis.limits (standing_of diagnosis.limits shown) client.start.tables))
    → IsRecorded given limits r
records_all {O} {saw} {given} {client} {it} all limits sites timed diagnosis r sees span adds times holds finds =
    let seen : Follows (shown_of all.bytes) sites × FollowsTimes true (timed_of all.bytes) timed × FollowsOdd (shown_of all.bytes) diagnosis × (diagnosis.limits ≡ limits) =
    sees _ all.seen in
    record {
      start = client.start;
      lead = record { bytes = all.bytes; all = all.all; lines = all.lines; come = all.taken.took.came };
      span = span;
      sites = adds (shown_of all.bytes) seen.0;
      times = times (timed_of all.bytes) seen.1;
      held = holds (shown_of all.bytes) seen.2 ∙ ap (λ (l : Limits). (standing_of l (shown_of all.bytes)).places.0) seen.3;
      findings = finds (shown_of all.bytes) seen.2
          ∙ ap (λ (l : Limits). map finding_name (findings_of l (standing_of l (shown_of all.bytes)) client.start.tables)) seen.3;
    }
