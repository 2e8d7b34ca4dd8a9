use Rattle.std.proofs.Common.{nat_lt, ap, sym, ◌∙◌}
use Rattle.tk_until.proofs.Fronts.{later_read, no_json, no_shape}
use Rattle.tk_until.proofs.held.is_later.Goals as goal

pub returns-in-Ok : goal.returns-in-Ok
returns-in-Ok c = ap (nat_lt c.args.until) c.now.ensures ∙ sym (later_read c.args.until c.args.line.now c.in-Ok.line c.in-Ok.ensures)

pub returns-in-Err-BadJson : goal.returns-in-Err-BadJson
returns-in-Err-BadJson c = no_json c.args.until c.args.line.now c.in-Err-BadJson.field-0 c.in-Err-BadJson.field-0-is c.in-Err-BadJson.ensures

pub returns-in-Err-BadShape : goal.returns-in-Err-BadShape
returns-in-Err-BadShape c = no_shape c.args.until c.args.line.now c.in-Err-BadShape.field-0 c.in-Err-BadShape.field-0-is c.in-Err-BadShape.ensures
