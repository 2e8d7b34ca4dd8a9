use Rattle.std.proofs.Common.{ap, subst}
use Rattle.tk_cell.specs.Views.{as_caller, Known}
use Rattle.tk_cell.specs.Calls.{Calls}
use Rattle.tk_cell.proofs.OursLemmas.{calls_in_order}
use Rattle.tk_cell.proofs.shared.Shared.call_as.Goals as goal

pub returns-clause-order : goal.returns-clause-order
returns-clause-order g c =
    let m = g.O.Sequential.meaning in
    let before = as_caller c.args.number c.args.token.now.view in
    let is = ap (λ (k : Known _ _ _). k.view) c.go_on_as.ensures in
    calls_in_order m before c.call.new.token.view c.args.call c.call.result
    (subst (λ v. Calls m v c.args.call c.call.result c.call.new.token.view) is c.call.ensures.entry)
