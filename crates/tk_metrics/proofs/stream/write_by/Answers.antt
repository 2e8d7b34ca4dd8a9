use Rattle.std.proofs.Common.{[], subst, sym}
use Rattle.tk_metrics.specs.Following.{Sees}
use Rattle.tk_metrics.specs.Streams.{Measures, usual}
use Rattle.tk_metrics.proofs.stream.write_by.Goals as goal

pub write_seen-requires-clause-seen : goal.write_seen-requires-clause-seen
write_seen-requires-clause-seen g c = subst (λ b. Sees b (usual c.args.lints.now) [] [] c.in-Ok.seen) (sym c.in-Ok.ensures.0.notes.told) c.in-Ok.ensures

pub returns-in-Ok-clause-measures : goal.returns-in-Ok-clause-measures
returns-in-Ok-clause-measures g c =
    subst (λ b. Measures b c.args.lints.now (g.R.Read.remaining c.args.reader.now) (g.R.Read.remaining c.write_seen.new.reader) c.write_seen.result
    (g.W.Write.contents c.args.writer.now) (g.W.Write.contents c.write_seen.new.writer)) c.in-Ok.ensures.0.notes.told c.write_seen.ensures.measures
