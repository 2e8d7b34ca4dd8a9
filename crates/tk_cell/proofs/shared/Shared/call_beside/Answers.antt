use Rattle.tk_cell.proofs.RoleLemmas.{second_may}
use Rattle.tk_cell.proofs.shared.Shared.call_beside.Goals as goal

pub call-reply-requires-clause-role : goal.call-reply-requires-clause-role
call-reply-requires-clause-role g c =
    second_may g.O.Sequential.meaning c.args.token.now.view c.args.other.now.view c.meet.new.token.view c.meet.new.other.view c.meet.ensures.met c.args.call c.requires.role
