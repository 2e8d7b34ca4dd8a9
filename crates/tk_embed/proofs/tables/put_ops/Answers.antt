use Rattle.std.proofs.Common.{List, ◌++◌, map, take, ap, ◌∙◌}
use Rattle.tk_stream.specs.declared.tables.op.Op.{Op}
use Rattle.tk_embed.specs.Entries.{op_shown, op_entry_shown}
use Rattle.tk_embed.proofs.FaultLemmas.{op_at}
use Rattle.tk_embed.proofs.tables.put_ops.Goals as goal

pub returns-in-Err-clause-err : goal.returns-in-Err-clause-err
returns-in-Err-clause-err c empty =
    op_at c.args.text.now c.args.attrs.now c.args.now c.args.entries.now c.loop-i.i _ c.loop-i.tables.ops c.in-Err.bad c.loop-i-test.true
    (c.loop-i.invariant.ops ∙ ap (λ (os : List Op). map op_shown os ++ map (op_entry_shown c.args.text.now c.args.attrs.now c.args.now) (take c.loop-i.i c.args.entries.now)) empty)
    c.in-Err.ensures.err
