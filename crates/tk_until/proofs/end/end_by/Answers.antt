use Rattle.std.proofs.Common.{ap, ◌∙◌}
use Rattle.tk_stream.specs.Tables.{TablesView}
use Rattle.tk_until.proofs.end.end_by.Goals as goal

pub returns : goal.returns
returns g c =
    let all = c.in_ok-read_stream.ensures in
    record {
      start = c.read_stream.new.client.start;
      bytes = all.bytes;
      all = all.all;
      lines = all.lines;
      come = all.taken.took.came;
      is = c.now.ensures ∙ ap (λ (t : TablesView). t.now) c.tables.ensures;
    }
