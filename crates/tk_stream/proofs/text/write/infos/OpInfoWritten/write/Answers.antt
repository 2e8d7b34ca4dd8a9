use Rattle.std.proofs.Common.{◌++◌, ap}
use Rattle.serde_json.specs.Written.{comma_if}
use Rattle.tk_stream.proofs.Pieces.{closes_item, put_as}
use Rattle.tk_stream.proofs.InfoTexts.{op_split}
use Rattle.tk_stream.proofs.text.write.infos.OpInfoWritten.write.Goals as goal

pub returns : goal.returns
returns c = put_as (ap (λ xs. comma_if c.args.later ++ xs) (op_split c.args.self.now)) (rw (← c.as_slice.ensures.list)
    (closes_item (comma_if c.args.later) _ c.in_ok-put_attrs.ensures c.in_ok-put_op.ensures))
