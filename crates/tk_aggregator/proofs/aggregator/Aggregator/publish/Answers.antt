use Rattle.std.proofs.Common.{◌++◌, false, sym, subst}
use Rattle.tk_aggregator.specs.Aggregates.{Aggregating, FollowsTaker, line_at}
use Rattle.tk_stream.specs.Spelling.{sent_text}
use Rattle.tk_stream.specs.Streams.{IsStreamTo}
use Rattle.tk_aggregator.specs.Publishing.{IsTimedStreamTo}
use Rattle.tk_aggregator.proofs.FollowLemmas.{line_follows, refused_follows}
use Rattle.tk_aggregator.proofs.SendLemmas.{may_send, stream_goes_on, timed_goes_on}
use Rattle.tk_aggregator.proofs.aggregator.Aggregator.publish.Goals as goal

pub returns-clause-stream : goal.returns-clause-stream
returns-clause-stream g c bytes stream =
    subst (λ (b : Aggregating). IsStreamTo (bytes ++ sent_text (line_at false c.args.self.now c.args.now)) b.told b.last) (sym c.in_ok-number.ensures.state)
    (stream_goes_on c.args.self.now c.args.now false c.tables.ensures.sound c.in_ok-number.ensures.due c.ranges.now.fits bytes stream)

pub returns-clause-timed_stream : goal.returns-clause-timed_stream
returns-clause-timed_stream g c bytes stream =
    subst (λ (b : Aggregating). IsTimedStreamTo (bytes ++ sent_text (line_at false c.args.self.now c.args.now)) b.told b.timing.told b.last) (sym c.in_ok-number.ensures.state)
    (timed_goes_on c.args.self.now c.args.now false c.tables.ensures.sound c.in_ok-number.ensures.due c.ranges.now.fits bytes stream)

pub returns-clause-may_send : goal.returns-clause-may_send
returns-clause-may_send g c due = may_send c.args.self.now c.args.now false c.tables.ensures.sound due c.ranges.now.fits

pub returns-in_err-number-clause-may_send : goal.returns-in_err-number-clause-may_send
returns-in_err-number-clause-may_send g c due = may_send c.args.self.now c.args.now false c.tables.ensures.sound due c.ranges.now.fits

pub returns-clause-follows : goal.returns-clause-follows
returns-clause-follows g c t f = subst (λ (b : Aggregating). FollowsTaker b t) (sym c.in_ok-number.ensures.state) (line_follows false c.args.self.now c.args.now t f)

pub returns-in_err-number-clause-follows : goal.returns-in_err-number-clause-follows
returns-in_err-number-clause-follows g c t f = refused_follows _ false c.args.self.now c.args.now _ _ _ t c.in_err-number.ensures.refused f
