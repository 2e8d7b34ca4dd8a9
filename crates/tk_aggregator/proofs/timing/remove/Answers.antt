use Rattle.std.proofs.Common.{Option, sym, ap, ◌∙◌}
use Rattle.std.specs.Prelude.{unwrap_or}
use Rattle.tk_ledgers.specs.Times.{TimesSight}
use Rattle.tk_stream.specs.Lines.{GoneView, none_gone}
use Rattle.tk_stream.specs.Tables.{staying}
use Rattle.tk_stream.specs.Times.{times_id}
use Rattle.tk_stream.proofs.GoneLemmas.{staying_all}
use Rattle.tk_aggregator.proofs.timing.remove.Goals as goal

pub returns-in_default-clause-times : goal.returns-in_default-clause-times
returns-in_default-clause-times c =
    let times = c.args.times.now in
    sym (ap (λ (o : Option GoneView). staying times_id (unwrap_or o none_gone).tasks times) c.in_default.is ∙ staying_all times_id times)

pub returns-in_default-clause-readers : goal.returns-in_default-clause-readers
returns-in_default-clause-readers c =
    let readers = c.args.readers.now.items in
    sym (ap (λ (o : Option GoneView). staying (λ (s : TimesSight). s.id) (unwrap_or o none_gone).tasks readers) c.in_default.is ∙ staying_all (λ (s : TimesSight). s.id) readers)
