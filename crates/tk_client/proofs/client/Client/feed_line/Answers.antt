use Rattle.std.proofs.Common.{Option, Some, None}
use Rattle.std.specs.Prelude.{IfSome}
use Rattle.tk_client.specs.Changes.{ChangeView, IsChange, Timed, timed_in}
use Rattle.tk_client.specs.Changing.{ChangedBy, Noted}
use Rattle.tk_client.proofs.ChangeLemmas.{is_change}
use Rattle.tk_client.proofs.client.Client.feed_line.Goals as goal

of_change : (before after : Timed) (o : Option ChangeView) → IfSome o (Noted ChangedBy before after) → IfSome o (IsChange before after)
of_change before after (Some change) h = is_change before after change h
of_change before after None h = tt

pub returns-in-Ok-clause-fed : goal.returns-in-Ok-clause-fed
returns-in-Ok-clause-fed c sound =
    let h = c.in-Ok.ensures.step in
    (h.0, of_change (timed_in c.args.self.now.start) (timed_in c.step.new.self.start) c.in-Ok.change h.1)
