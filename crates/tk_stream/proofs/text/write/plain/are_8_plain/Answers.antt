use Rattle.std.proofs.Common.{arith}
use Rattle.json.proofs.Printed.Plain.{plain_from_lanes}
use Rattle.tk_stream.proofs.text.write.plain.are_8_plain.Goals as goal

pub returns : goal.returns
returns c = plain_from_lanes c.args.bytes.now c.args.at 8 c.requires (omega arith) c.type_inv.bytes
