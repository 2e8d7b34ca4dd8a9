use Rattle.std.proofs.Common.{rules}
use Rattle.tk_reading.proofs.ReadLemmas.{reads_none}
use Rattle.tk_metrics.proofs.KeepLemmas.{keeps_on}
use Rattle.tk_metrics.proofs.keeping.step.Goals as goal

pub returns-in-Ok-eq0-clause-steps : goal.returns-in-Ok-eq0-clause-steps
returns-in-Ok-eq0-clause-steps g c = λ by given old k.
    let left = g.R.Read.remaining c.read.new.self in
    let read = reads_none _ _ c.in-Ok-eq0.field-0 c.read.new.buf c.in-Ok-eq0.field-0-test c.in-Ok-eq0.ensures.bytes.0 in
    c.at_end.ensures.steps by given left old (c.in-Ok-eq0.ensures.bytes.1 c.in-Ok-eq0.field-0-test (search rules))
    (keeps_on c.args.path.now by c.args.lints.now given _ c.args.progress.lines c.args.progress.put c.args.client.now c.args.seen.now old _ k left read)

pub returns-in-Ok-clause-steps : goal.returns-in-Ok-clause-steps
returns-in-Ok-clause-steps g c = λ by given old k.
    c.after_piece.ensures.steps by given (g.R.Read.remaining c.args.reader.now) (g.R.Read.remaining c.read.new.self) old c.in-Ok.ensures.bytes.0 k
