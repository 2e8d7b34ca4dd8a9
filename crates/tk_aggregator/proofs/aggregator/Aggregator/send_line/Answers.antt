use Rattle.std.proofs.Common.{ap, ◌∙◌}
use Rattle.tk_aggregator.specs.Aggregates.{without, having_told}
use Rattle.tk_aggregator.proofs.LeaveLemmas.{left_is}
use Rattle.tk_aggregator.proofs.aggregator.Aggregator.send_line.Goals as goal

pub returns-in-Ok-send-clause-state : goal.returns-in-Ok-send-clause-state
returns-in-Ok-send-clause-state g c =
    let a = c.args.self.now in
    c.tell.ensures ∙ ap (λ x. having_told x c.args.now) (ap (λ gone. without a gone) c.in-Ok.ensures.leaving ∙ left_is c.args.snapshot a c.args.now)
