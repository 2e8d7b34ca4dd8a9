use Rattle.std.proofs.Common.{◌+◌, ◌∷◌, ◌++◌, [], inl, inr, refl, ap, sym, ◌∙◌, subst}
use Rattle.std.specs.Io.KnownBytes.{Appends}
use Rattle.std.proofs.KnownBytes.{Appends-nil}
use Rattle.tk_events.specs.Handles.{Recording}
use Rattle.tk_stream.specs.Spelling.{sent_text}
use Rattle.tk_aggregator.specs.Aggregates.{IsSound, Refuses, after_line, sending_at}
use Rattle.tk_stream.specs.Sent.{IsCut}
use Rattle.tk_stream.specs.Streams.{Sending, MaySend, line_sent}
use Rattle.tk_live.specs.Read.{AreItemsRead}
use Rattle.tk_live.proofs.Lines.{unmarked}
use Rattle.tk_live.proofs.Publishing.{one_line, is_due, too_low, none_left}
use Rattle.tk_live.proofs.Publish.{may_read, now_gathered, published}
use Rattle.tk_live.proofs.interpreter.Interpreter.publish.Goals as goal

pub collect-requires : goal.collect-requires
collect-requires g c =
    let stands = c.requires.4 in
    record {
      console = sym stands.takes.console;
      recorders = stands.offered.alone ∙ sym stands.takes.recorders;
      unfinished = stands.takes.unfinished;
    }

pub read_items-requires : goal.read_items-requires
read_items-requires g c =
    let r = c.requires in
    let i = c.args.self.now in
    let e = c.in_default.ensures in
    may_read i r.0 r.1 r.2 r.3 r.4 c.collect.new.aggregator c.collect.new.taker e.took e.ok e.sound e.stays_sound c.collect.new.recorder

pub returns-in-Err : goal.returns-in-Err
returns-in-Err g c line settings k kept sent stands = (inr tt, [], refl, Appends-nil _)

pub returns-in-Ok : goal.returns-in-Ok
returns-in-Ok g c line settings k kept sent stands =
    let i = c.args.self.now in
    let e = c.in_default.ensures in
    let a = c.collect.new.aggregator in
    let u = c.collect.new.taker in
    let m = c.read_items.new.self in
    let now = c.args.moment in
    let whole = c.args.whole in
    let r : Recording = c.collect.new.recorder in
    let read : AreItemsRead (record i { recorder = r; taker = u; aggregator = a }) m = c.read_items.ensures in
    let is = now_gathered i settings k kept sent stands a u e.took e.ok r e.same e.knows m read in
    let s : Sending = sending_at whole m.aggregator now in
    let w = c.in-Ok.ensures in
    let later : IsSound (after_line whole m.aggregator now) = subst (λ x. IsSound x) w.state w.stays_sound in (
      is_due k now whole m.aggregator.last m.aggregator.tables.now is.moment is.numbers w.due.moment w.due.number,
      [],
      s ∷ [],
      unmarked _ settings _ kept (sent ++ s ∷ []) (published i settings k kept sent stands a u e.took e.ok r e.same e.knows m read line now whole w.sound (w.may_send w.due) later c.send.new.aggregator w.state),
      subst (λ text. Appends (g.W.Write.contents c.args.writer.now) (g.W.Write.contents c.send.new.writer) text) (sym (one_line m.aggregator sent now whole is.told)) w.sent,
    )

pub returns-in-Err-Clock : goal.returns-in-Err-Clock
returns-in-Err-Clock g c line settings k kept sent stands =
    let i = c.args.self.now in
    let e = c.in_default.ensures in
    let a = c.collect.new.aggregator in
    let u = c.collect.new.taker in
    let m = c.read_items.new.self in
    let now = c.args.moment in
    let whole = c.args.whole in
    let r : Recording = c.collect.new.recorder in
    let read : AreItemsRead (record i { recorder = r; taker = u; aggregator = a }) m = c.read_items.ensures in
    let is = now_gathered i settings k kept sent stands a u e.took e.ok r e.same e.knows m read in
    let before = g.W.Write.contents c.args.writer.now in
    let f = c.in-Err-Clock in
    let w = subst (λ x. Refuses x whole m.aggregator now c.send.new.aggregator before (g.W.Write.contents c.send.new.writer)) f.field-0-is f.ensures.refused in
    (inl (too_low k now whole _ is.moment w.3), [], refl, subst (λ b. Appends before b []) (sym w.1) (Appends-nil before))

pub returns-in-Err-NumbersSpent : goal.returns-in-Err-NumbersSpent
returns-in-Err-NumbersSpent g c line settings k kept sent stands =
    let i = c.args.self.now in
    let e = c.in_default.ensures in
    let a = c.collect.new.aggregator in
    let u = c.collect.new.taker in
    let m = c.read_items.new.self in
    let now = c.args.moment in
    let whole = c.args.whole in
    let r : Recording = c.collect.new.recorder in
    let read : AreItemsRead (record i { recorder = r; taker = u; aggregator = a }) m = c.read_items.ensures in
    let is = now_gathered i settings k kept sent stands a u e.took e.ok r e.same e.knows m read in
    let before = g.W.Write.contents c.args.writer.now in
    let f = c.in-Err-NumbersSpent in
    let w = subst (λ x. Refuses x whole m.aggregator now c.send.new.aggregator before (g.W.Write.contents c.send.new.writer)) f.field-0-is f.ensures.refused in
    (inl (none_left k now whole m.aggregator.last m.aggregator.tables.now is.moment is.numbers w.3 w.4), [], refl, subst (λ b. Appends before b []) (sym w.1) (Appends-nil before))

pub returns-in-Err-Memory : goal.returns-in-Err-Memory
returns-in-Err-Memory g c line settings k kept sent stands =
    let i = c.args.self.now in
    let e = c.in_default.ensures in
    let a = c.collect.new.aggregator in
    let u = c.collect.new.taker in
    let m = c.read_items.new.self in
    let now = c.args.moment in
    let whole = c.args.whole in
    let r : Recording = c.collect.new.recorder in
    let read : AreItemsRead (record i { recorder = r; taker = u; aggregator = a }) m = c.read_items.ensures in
    let is = now_gathered i settings k kept sent stands a u e.took e.ok r e.same e.knows m read in
    let before = g.W.Write.contents c.args.writer.now in
    let f = c.in-Err-Memory in
    let w = subst (λ x. Refuses x whole m.aggregator now c.send.new.aggregator before (g.W.Write.contents c.send.new.writer)) f.field-0-is f.ensures.refused in
    (inr tt, [], refl, subst (λ b. Appends before b []) (sym w.1) (Appends-nil before))

pub returns-in-Err-WriteFault : goal.returns-in-Err-WriteFault
returns-in-Err-WriteFault g c line settings k kept sent stands =
    let i = c.args.self.now in
    let e = c.in_default.ensures in
    let a = c.collect.new.aggregator in
    let u = c.collect.new.taker in
    let m = c.read_items.new.self in
    let now = c.args.moment in
    let whole = c.args.whole in
    let r : Recording = c.collect.new.recorder in
    let read : AreItemsRead (record i { recorder = r; taker = u; aggregator = a }) m = c.read_items.ensures in
    let is = now_gathered i settings k kept sent stands a u e.took e.ok r e.same e.knows m read in
    let before = g.W.Write.contents c.args.writer.now in
    let f = c.in-Err-WriteFault in
    let w = subst (λ x. Refuses x whole m.aggregator now c.send.new.aggregator before (g.W.Write.contents c.send.new.writer)) f.field-0-is f.ensures.refused in
    let s : Sending = sending_at whole m.aggregator now in
    let may = f.ensures.may_send w.1 in (
      inr tt,
      w.2.0,
      (s, refl, refl, ap (λ n. n + 1) is.last, subst (λ b. MaySend b s) is.told may, subst (λ b. IsCut (sent_text (line_sent b s)) w.2.0) is.told w.2.1),
      w.2.2,
    )

pub returns-in-Err-Broken : goal.returns-in-Err-Broken
returns-in-Err-Broken g c line settings k kept sent stands =
    let i = c.args.self.now in
    let e = c.in_default.ensures in
    let a = c.collect.new.aggregator in
    let u = c.collect.new.taker in
    let m = c.read_items.new.self in
    let now = c.args.moment in
    let whole = c.args.whole in
    let r : Recording = c.collect.new.recorder in
    let read : AreItemsRead (record i { recorder = r; taker = u; aggregator = a }) m = c.read_items.ensures in
    let is = now_gathered i settings k kept sent stands a u e.took e.ok r e.same e.knows m read in
    let before = g.W.Write.contents c.args.writer.now in
    let f = c.in-Err-Broken in
    let w = subst (λ x. Refuses x whole m.aggregator now c.send.new.aggregator before (g.W.Write.contents c.send.new.writer)) f.field-0-is f.ensures.refused in
    let goes = is.going in
    let broken = w.3 in
    absurd cc
