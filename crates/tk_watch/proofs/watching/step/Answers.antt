use Rattle.std.proofs.Common.{[], refl, rules}
use Rattle.tk_reading.proofs.ReadLemmas.{reads_none}
use Rattle.tk_watch.proofs.WatchLemmas.{keeps_on}
use Rattle.tk_watch.proofs.watching.step.Goals as goal

pub returns-in-Ok-eq0-clause-steps : goal.returns-in-Ok-eq0-clause-steps
returns-in-Ok-eq0-clause-steps g c = λ given old said w.
    let left = g.R.Read.remaining c.read.new.self in
    let read = reads_none _ _ c.in-Ok-eq0.field-0 c.read.new.buf c.in-Ok-eq0.field-0-test c.in-Ok-eq0.ensures.bytes.0 in
    c.at_end.ensures.steps given left old said (c.in-Ok-eq0.ensures.bytes.1 c.in-Ok-eq0.field-0-test (search rules))
    (keeps_on c.args.screen.now given _ old c.args.progress.lines c.args.progress.drawn [] c.args.course.now _ said _ w refl left read)

pub returns-in-Ok-clause-steps : goal.returns-in-Ok-clause-steps
returns-in-Ok-clause-steps g c = λ given old said w.
    c.after_piece.ensures.steps given (g.R.Read.remaining c.args.reader.now) (g.R.Read.remaining c.read.new.self) old said c.in-Ok.ensures.bytes.0 w
