use Rattle.std.proofs.Common.{Some, is_some, refl}
use Rattle.tk_client.specs.Changes.{Timed}
use Rattle.tk_sites.specs.declared.timed_sites.TimedSites.{TimedSites}
use Rattle.tk_sites.proofs.TimedLemmas.{some_more}
use Rattle.tk_sites.proofs.timed_sites.TimedSitesObserves.line.Goals as goal

pub returns-in-Some : goal.returns-in-Some
returns-in-Some c = λ from seen few is h.
    let now : Timed = (c.args.tables.now, c.args._times.now) in
    let new : TimedSites = record { alloc = c.args.self.now.alloc; changes = Some c.note.new.changes } in
    some_more c.note.result (is_some from.changes) seen now c.args.self.now new c.in-Some.changes c.note.new.changes c.in-Some.is refl h (c.note.ensures seen c.args._times.now is)
