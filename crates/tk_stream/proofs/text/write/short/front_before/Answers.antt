use Rattle.std.proofs.Common.{◌-◌, take, arith, length-take-le}
use Rattle.tk_stream.proofs.Pieces.{stored_before}
use Rattle.tk_stream.proofs.text.write.short.front_before.Goals as goal

pub returns-clause-text : goal.returns-clause-text
returns-clause-text g c =
    let long = length-take-le g.row.K c.args.text.now c.requires.0 in
    stored_before (c.args.at - g.row.K) c.args.at c.args.bytes.now (take g.row.K c.args.text.now) (omega (arith, long)) (omega arith)
