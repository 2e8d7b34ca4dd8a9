use Rattle.json.proofs.Printed.Plain.{escape_on_plain}
use Rattle.tk_stream.proofs.text.write.plain.is_plain.Goals as goal

pub returns-then-bytes-lt16 : goal.returns-then-bytes-lt16
returns-then-bytes-lt16 c = escape_on_plain c.is_short_plain.result c.args.bytes.now c.is_short_plain.ensures

pub returns-else-bytes-lt16 : goal.returns-else-bytes-lt16
returns-else-bytes-lt16 c = escape_on_plain c.is_long_plain.result c.args.bytes.now c.is_long_plain.ensures
