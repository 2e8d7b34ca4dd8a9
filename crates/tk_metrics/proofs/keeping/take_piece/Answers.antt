use Rattle.std.proofs.Common.{Err, subst, sym, ◌∙◌, ◌++◌}
use Rattle.std.proofs.lemmas.Result.{err_from_is_err_and}
use Rattle.tk_reading.specs.Shown.{shown_of, timed_of}
use Rattle.tk_metrics.specs.Keeping.{Keeps}
use Rattle.tk_metrics.specs.Streams.{usual}
use Rattle.tk_metrics.proofs.FollowLemmas.{last_stopped}
use Rattle.tk_metrics.proofs.KeepLemmas.{ends_by, ends_without, stops_with, stream_stops, takes_more}
use Rattle.tk_metrics.proofs.keeping.take_piece.Goals as goal

pub returns-in-Ok-clause-goes : goal.returns-in-Ok-clause-goes
returns-in-Ok-clause-goes g c = λ by given left new put old read k.
    takes_more c.args.path.now by c.args.lints.now given left c.args.lines put c.args.client.now c.args.seen.now old _ k
    new c.args.piece.now c.in-Ok.sum c.follow_lines.new.client c.follow_lines.new.seen read
    (c.in-Ok.ensures.takes by (usual c.args.lints.now) k.bytes k.taken k.follows)

pub returns-in_err-put_now-in-Err-clause-goes : goal.returns-in_err-put_now-in-Err-clause-goes
returns-in_err-put_now-in-Err-clause-goes g c = λ by given left new put old read k.
    let p = err_from_is_err_and c.from_residual.result c.from_residual.ensures.1 in
    let s = stream_stops by (usual c.args.lints.now) k.bytes c.args.piece.now c.follow_lines.new.client c.follow_lines.new.seen c.in-Err.fault (sym c.is_of_stream.ensures ∙ c.if-is_of_stream.true)
    (c.in-Err.ensures.takes by (usual c.args.lints.now) k.bytes k.taken k.follows) in
    rw (p.1, p.2) (ends_without c.args.path.now by c.args.lints.now given left c.args.lines put c.args.client.now c.args.seen.now old _ k
    new c.args.piece.now c.follow_lines.new.client c.follow_lines.new.seen read s.0 s.1 s.3 c.in_err-put_now-in-Err.field-0.0 (g.P.Place.texts c.put_now.new.place)
    (c.in_err-put_now-in-Err.ensures by (shown_of (k.bytes ++ s.3.part)) (timed_of (k.bytes ++ s.3.part))
    (last_stopped by (usual c.args.lints.now) k.bytes c.args.piece.now s.0 s.1 c.follow_lines.new.client c.follow_lines.new.seen s.3) s.3.seen))

pub returns-then-is_of_stream-clause-goes : goal.returns-then-is_of_stream-clause-goes
returns-then-is_of_stream-clause-goes g c = λ by given left new put old read k.
    let s = stream_stops by (usual c.args.lints.now) k.bytes c.args.piece.now c.follow_lines.new.client c.follow_lines.new.seen c.in-Err.fault (sym c.is_of_stream.ensures ∙ c.if-is_of_stream.true)
    (c.in-Err.ensures.takes by (usual c.args.lints.now) k.bytes k.taken k.follows) in
    subst (λ f. Keeps c.args.path.now by c.args.lints.now given new (Err f) old (g.P.Place.texts c.put_now.new.place)) (sym s.2)
    (ends_by c.args.path.now by c.args.lints.now given left c.args.lines put c.args.client.now c.args.seen.now old _ k
    new c.args.piece.now c.follow_lines.new.client c.follow_lines.new.seen read s.0 s.1 s.3 (g.P.Place.texts c.put_now.new.place)
    (c.in_ok-put_now-in-Err.ensures by (shown_of (k.bytes ++ s.3.part)) (timed_of (k.bytes ++ s.3.part))
    (last_stopped by (usual c.args.lints.now) k.bytes c.args.piece.now s.0 s.1 c.follow_lines.new.client c.follow_lines.new.seen s.3) s.3.seen))

pub returns-else-is_of_stream-clause-goes : goal.returns-else-is_of_stream-clause-goes
returns-else-is_of_stream-clause-goes g c = λ by given left new put old read k.
    stops_with c.args.path.now by c.args.lints.now given left c.args.lines put c.args.client.now c.args.seen.now old _ k
    new c.args.piece.now c.follow_lines.new.client c.follow_lines.new.seen c.in-Err.fault read (sym c.is_of_stream.ensures ∙ c.if-is_of_stream.false)
    (c.in-Err.ensures.takes by (usual c.args.lints.now) k.bytes k.taken k.follows)
