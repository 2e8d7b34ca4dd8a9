use Rattle.tk_client.specs.Changes.{Timed}
use Rattle.tk_reading.specs.Shown.{tables_of}
use Rattle.tk_reading.proofs.ShownLemmas.{leads, seen_more}
use Rattle.tk_sites.specs.Inner.{Follows}
use Rattle.tk_sites.proofs.sites.SitesObserves.line.Goals as goal

pub returns : goal.returns
returns c = λ from seen few is h.
    let now : Timed = (c.args.tables.now, c.args._times.now) in
    seen_more (λ xs. Follows xs c.note.new.self) c.note.result seen now (c.note.ensures (tables_of seen) (leads seen now c.args.change.now is) h)
