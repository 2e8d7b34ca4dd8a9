use Rattle.std.proofs.Common.{◌≡◌, Option, true, subst}
use Rattle.std.specs.Prelude.{IfNone}
use Rattle.tk_client.specs.Taking.{repeats_gone}
use Rattle.tk_client.specs.declared.leaving.GoneIds.{GoneIds}
use Rattle.tk_client.proofs.LeaveLemmas.{gone-twice}
use Rattle.tk_client.proofs.shown.Shown.go_on.Goals as goal

pub returns-in_default-clause-applied : goal.returns-in_default-clause-applied
returns-in_default-clause-applied c =
    gone-twice c.args.self.now c.args.line.now
    (subst (λ (o : Option GoneIds). IfNone o (repeats_gone c.args.line.now ≡ true)) c.in_default.is c.in_ok-leaving.ensures.none)
