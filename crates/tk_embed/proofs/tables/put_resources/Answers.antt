use Rattle.std.proofs.Common.{List, ◌++◌, map, take, ap, ◌∙◌}
use Rattle.tk_stream.specs.declared.tables.resource.Resource.{Resource}
use Rattle.tk_embed.specs.Entries.{resource_shown, resource_entry_shown}
use Rattle.tk_embed.proofs.FaultLemmas.{resource_at}
use Rattle.tk_embed.proofs.tables.put_resources.Goals as goal

pub returns-in-Err-clause-err : goal.returns-in-Err-clause-err
returns-in-Err-clause-err c empty =
    resource_at c.args.text.now c.args.attrs.now c.args.now c.args.entries.now c.loop-i.i _ c.loop-i.tables.resources c.in-Err.bad c.loop-i-test.true
    (c.loop-i.invariant.resources ∙ ap (λ (rs : List Resource). map resource_shown rs ++ map (resource_entry_shown c.args.text.now c.args.attrs.now c.args.now) (take c.loop-i.i c.args.entries.now)) empty)
    c.in-Err.ensures.err
