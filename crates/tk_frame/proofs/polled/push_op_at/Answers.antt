use Rattle.std.proofs.Common.{OnOk, [], subst}
use Rattle.std.specs.Option.{option_map_or}
use Rattle.tk_screen.specs.Texts.{Puts}
use Rattle.tk_frame.specs.Polled.{own_op}
use Rattle.tk_frame.proofs.polled.push_op_at.Goals as goal

pub returns-in-Some : goal.returns-in-Some
returns-in-Some c =
    subst (λ o. OnOk c.push_op_if.result (Puts c.args.lines.now.items c.push_op_if.new.lines.items (option_map_or (own_op c.args.tables.now c.args.id) o []))) c.in-Some.ensures
    c.push_op_if.ensures
