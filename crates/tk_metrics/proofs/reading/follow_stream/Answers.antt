use Rattle.tk_metrics.proofs.FollowLemmas.{by_reads}
use Rattle.tk_metrics.proofs.reading.follow_stream.Goals as goal

pub returns : goal.returns
returns g c = λ by limits seen.
    by_reads by limits c.args.seen.now seen.0.notes.told seen.1.1 (g.R.Read.remaining c.args.reader.now) (g.R.Read.remaining c.read_stream.new.reader)
    c.read_stream.result c.read_stream.new.client c.read_stream.new.observer c.read_stream.ensures
