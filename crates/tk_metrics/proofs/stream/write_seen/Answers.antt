use Rattle.std.proofs.Common.{◌≡◌, ◌∙◌}
use Rattle.std.proofs.lemmas.Result.{err_from_is_err_and}
use Rattle.tk_reading.specs.Shown.{shown_of, timed_of}
use Rattle.tk_metrics.specs.Following.{SawAll}
use Rattle.tk_metrics.specs.Streams.{stream_text, usual}
use Rattle.tk_metrics.proofs.FollowLemmas.{last_of}
use Rattle.tk_metrics.proofs.StreamLemmas.{measures_all, measures_front, measures_none}
use Rattle.tk_metrics.proofs.stream.write_seen.Goals as goal

pub returns-in_err-follow_stream-clause-measures : goal.returns-in_err-follow_stream-clause-measures
returns-in_err-follow_stream-clause-measures g c =
    let by = c.args.seen.now.leavers.by in
    let limits = usual c.args.lints.now in
    let p = err_from_is_err_and c.from_residual.result c.from_residual.ensures.1 in
    rw (p.1, p.2) (measures_none limits by c.args.lints.now _ _ _ _ c.follow_stream.new.client c.follow_stream.new.seen
    c.in_err-follow_stream.field-0.0 (c.in_err-follow_stream.ensures by limits c.requires.seen))

pub returns-in-Ok-send-clause-measures : goal.returns-in-Ok-send-clause-measures
returns-in-Ok-send-clause-measures g c =
    let by = c.args.seen.now.leavers.by in
    let lints = c.args.lints.now in
    let client = c.follow_stream.new.client in
    let seen = c.follow_stream.new.seen in
    let given = g.R.Read.remaining c.args.reader.now in
    let told : SawAll by (usual lints) given client seen = c.in_ok-follow_stream.ensures by (usual lints) c.requires.seen in
    let is : c.as_slice.result.now ≡ stream_text by lints client.start.tables told.bytes =
    c.as_slice.ensures.value ∙ c.in-Ok.ensures by (shown_of told.bytes) (timed_of told.bytes) (last_of told.bytes told.lines client told.taken) told.seen in
    measures_all by lints given (g.R.Read.remaining c.follow_stream.new.reader) (g.W.Write.contents c.args.writer.now) (g.W.Write.contents c.send.new.writer) client seen c.as_slice.result.now told is c.in-Ok-send.ensures

pub returns-clause-measures : goal.returns-clause-measures
returns-clause-measures g c =
    let by = c.args.seen.now.leavers.by in
    let lints = c.args.lints.now in
    let client = c.follow_stream.new.client in
    let seen = c.follow_stream.new.seen in
    let given = g.R.Read.remaining c.args.reader.now in
    let told : SawAll by (usual lints) given client seen = c.in_ok-follow_stream.ensures by (usual lints) c.requires.seen in
    let is : c.as_slice.result.now ≡ stream_text by lints client.start.tables told.bytes =
    c.as_slice.ensures.value ∙ c.in-Ok.ensures by (shown_of told.bytes) (timed_of told.bytes) (last_of told.bytes told.lines client told.taken) told.seen in
    let sent = c.in-Err.ensures in
    measures_front by lints given (g.R.Read.remaining c.follow_stream.new.reader) (g.W.Write.contents c.args.writer.now) (g.W.Write.contents c.send.new.writer) client seen c.as_slice.result.now told is sent.0 sent.1 sent.2
