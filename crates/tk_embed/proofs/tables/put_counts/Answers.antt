use Rattle.std.proofs.Common.{List, ◌++◌, map, take, ap, ◌∙◌}
use Rattle.tk_stream.specs.Tables.{PollCounts}
use Rattle.tk_embed.specs.Entries.{count_entry_shown}
use Rattle.tk_embed.proofs.FaultLemmas.{count_at}
use Rattle.tk_embed.proofs.tables.put_counts.Goals as goal

pub returns-in-Err-clause-err : goal.returns-in-Err-clause-err
returns-in-Err-clause-err c empty =
    count_at c.args.now c.args.entries.now c.loop-i.i _ c.loop-i.tables.counts c.in-Err.bad c.loop-i-test.true
    (c.loop-i.invariant.counts ∙ ap (λ (cs : List PollCounts). cs ++ map (count_entry_shown c.args.now) (take c.loop-i.i c.args.entries.now)) empty)
    c.in-Err.ensures.err
