use Rattle.std.proofs.Common.{rules, arith, []}
use Rattle.std.proofs.KnownBytes.{Consumes-nil}
use Rattle.std.proofs.lemmas.Result.{err_from_is_err_and}
use Rattle.tk_reading.proofs.ReadLemmas.{all_read, begins, reads_on, reads_stop}
use Rattle.tk_reading.proofs.reading.read_stream.Goals as goal

pub loop-init : goal.loop-init
loop-init g c = record {
  reading = record {
    bytes = [];
    read = Consumes-nil (g.R.Read.remaining c.args.reader.now);
    taken = begins c.args.client.now c.requires.client;
    seen = c.requires.observer;
  };
  few = omega arith;
}

pub returns-in-Ok-eq0 : goal.returns-in-Ok-eq0
returns-in-Ok-eq0 g c =
    let r = c.loop.invariant.reading in
    record {
      bytes = r.bytes;
      lines = c.loop.lines;
      all = all_read _ _ _ r.bytes c.read.new.buf c.in-Ok-eq0.field-0 c.in-Ok-eq0.field-0-test r.read c.in-Ok-eq0.ensures.bytes.0
          (c.in-Ok-eq0.ensures.bytes.1 c.in-Ok-eq0.field-0-test (search rules));
      taken = r.taken;
      seen = r.seen;
    }

pub returns-in_err-lines-in-Ok : goal.returns-in_err-lines-in-Ok
returns-in_err-lines-in-Ok g c =
    let r = c.loop.invariant.reading in
    let p = err_from_is_err_and c.from_residual.result c.from_residual.ensures.1 in
    rw (p.1, p.2) (reads_stop _ (g.O.Observes.saw c.args.observer.now) _ _ _ _ c.loop.lines c.loop.client c.feed_lines.new.client c.loop.observer c.feed_lines.new.observer r
    c.in-Ok.ensures.bytes.0 c.in_err-lines-in-Ok.field-0.0 (c.in_err-lines-in-Ok.ensures.takes c.args.observer.now r.bytes r.taken r.seen))

pub loop-preserved : goal.loop-preserved
loop-preserved g c =
    let i = c.loop.invariant in
    let r = i.reading in
    record {
      reading = reads_on _ (g.O.Observes.saw c.args.observer.now) _ _ _ _ c.loop.lines c.loop.client c.feed_lines.new.client c.loop.observer c.feed_lines.new.observer r
          c.in-Ok.ensures.bytes.0 c.in_ok-lines-in-Ok.lines (c.in_ok-lines-in-Ok.ensures.takes c.args.observer.now r.bytes r.taken r.seen);
      few = omega (arith, i.few, c.in_ok-lines-in-Ok.ensures.few);
    }
