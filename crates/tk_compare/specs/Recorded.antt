-- A stream, as it is compared.
use Rattle.std.specs.Prelude.{◌≡◌, ℕ, ◌==◌, List, [], ◌++◌, codes, length, map, Option, Result, Ok, Err, if◌then◌else◌}
use Rattle.tk_stream.specs.Tables.{TablesView}
use Rattle.tk_fault.specs.declared.fault.AppFault.{AppFault}
use Rattle.tk_fault.specs.declared.fault.AppFault.TheVariants as faults
use Rattle.tk_client.specs.Meaning.{Start}
use Rattle.tk_reading.specs.Outcomes.{HaveFault}
use Rattle.tk_reading.specs.Shown.{shown_of, timed_of}
use Rattle.tk_report.specs.TimedViews.{LeadToStart}
use Rattle.tk_odd.specs.declared.limits.Limits.{Limits}
use Rattle.tk_odd.specs.Diagnosis.{standing_of}
use Rattle.tk_odd.specs.Findings.{Placed, findings_of}
use Rattle.tk_odd.specs.Words.{name_of}
use Rattle.tk_sites.specs.Sites.{sites_of}
use Rattle.tk_sites.specs.TimedSites.{timed_sites}
use Rattle.tk_compare.specs.Names.{texts}
use Rattle.tk_compare.specs.declared.recorded.Recorded.{Recorded}

-- the name of what is found: its kind, and its place if it is about one
abbrev pub finding_name : Placed → List ℕ
finding_name (place, x) = name_of x.kind ++ (if length place == 0 then [] else codes " kind " ++ place)

-- the names of what is odd about a stream of these bytes, which come to these tables: worst first
abbrev pub names_in : Limits → List ℕ → TablesView → List (List ℕ)
names_in limits bytes tables = map finding_name (findings_of limits (standing_of limits (shown_of bytes)) tables)

-- the names of findings that were kept
abbrev pub names_kept : Recorded → List (List ℕ)
names_kept r = texts r.findings.items

-- all bytes of a reader come to this: its last moment, its places, their histograms, how they held up others, and what is odd about it
pub record IsRecorded (given : Option (List ℕ)) (limits : Limits) (r : Recorded) : Type 0 where
  pub start : Start
  pub lead : LeadToStart given start
  pub span : r.span ≡ start.tables.now
  pub sites : r.sites ≡ sites_of (shown_of lead.bytes) start.tables []
  pub times : r.times ≡ timed_sites (timed_of lead.bytes) start.tables start.times
  pub held : r.held ≡ (standing_of limits (shown_of lead.bytes)).places.0
  pub findings : names_kept r ≡ names_in limits lead.bytes start.tables

-- what reading a stream came to, by its answer: of the reader's bytes that were given and those that are left
abbrev pub Records : Limits → Option (List ℕ) → Option (List ℕ) → Result Recorded AppFault → Type 0
Records limits given left (Ok r) = IsRecorded given limits r
Records limits given left (Err (faults.Stream lines fault)) = HaveFault given left lines fault
Records limits given left (Err faults.Memory) = Unit {0}
Records limits given left (Err faults.Read) = Unit {0}
Records limits given left (Err faults.Write) = ⊥
Records limits given left (Err (faults.Script line name)) = ⊥
