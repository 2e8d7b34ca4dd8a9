use Rattle.std.proofs.Common.{codes}
use Rattle.serde_json.specs.Written.{comma_if}
use Rattle.tk_stream.proofs.Pieces.{open_item}
use Rattle.tk_stream.proofs.text.write.infos.put_attrs.Goals as goal

pub returns : goal.returns
returns c = open_item (comma_if c.args.later) (codes "{\"attrs\":[") c.in_ok-put_opening.ensures c.in_ok-put_items.ensures
