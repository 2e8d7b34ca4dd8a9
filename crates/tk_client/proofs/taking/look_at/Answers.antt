use Rattle.std.proofs.Common.{ap₂, ◌∙◌}
use Rattle.tk_client.specs.Taking.{repeats_gone, repeats_told, strange_gone, strange_told}
use Rattle.tk_client.specs.Applying.{worse}
use Rattle.tk_client.proofs.LineLemmas.{worse-of}
use Rattle.tk_client.proofs.taking.look_at.Goals as goal

pub returns : goal.returns
returns c =
    c.worse.ensures ∙ ap₂ worse c.look_at_gone.ensures c.in_ok-told.ensures
    ∙ worse-of (repeats_gone c.args.line.now) (strange_gone c.args.old.now c.args.line.now) (repeats_told c.args.old.now c.args.line.now) (strange_told c.args.old.now c.args.line.now)
