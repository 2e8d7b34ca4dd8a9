use Rattle.std.proofs.Common.{[], List, sym, ap, ◌∙◌}
use Rattle.std.specs.Prelude.{if◌then◌else◌, option_map}
use Rattle.tk_stream.specs.Fronts.{Telling, as_told, with_rows}
use Rattle.tk_stream.specs.Times.{TaskTimes, times_with}
use Rattle.tk_stream.specs.declared.tables.times.PollTimes.{PollTimes}
use Rattle.tk_aggregator.proofs.TimedLemmas.{line_told}
use Rattle.tk_aggregator.proofs.timing.Timing.line.Goals as goal

pub returns-then-snapshot-clause-ok : goal.returns-then-snapshot-clause-ok
returns-then-snapshot-clause-ok c =
    let a = c.self.inside in
    let told : List TaskTimes = with_rows (as_told times_with) a.times a.told.rows in
    line_told a.reads a.times a.told a.readers.items c.args.snapshot (option_map (λ l. l.now) c.args.leaving) c.args.line _ c.if-not-self.false
    (ap (λ (t : Telling PollTimes). with_rows (as_told times_with) a.times t.rows) c.new-nothing.ensures ∙ sym (ap (λ b. if b then [] else told) c.if-snapshot.true))
    c.telling.result c.args.self.now c.self.view_is c.telling.ensures.ok

pub returns-clause-ok : goal.returns-clause-ok
returns-clause-ok c =
    let a = c.self.inside in
    let told : List TaskTimes = with_rows (as_told times_with) a.times a.told.rows in
    line_told a.reads a.times a.told a.readers.items c.args.snapshot (option_map (λ l. l.now) c.args.leaving) c.args.line told c.if-not-self.false
    (sym (ap (λ b. if b then [] else told) c.if-snapshot.false))
    c.telling-2.result c.args.self.now c.self.view_is c.telling-2.ensures.ok
