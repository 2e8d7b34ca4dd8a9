use Rattle.std.proofs.Common.{◌≡◌, length, arith}
use Rattle.tk_core.proofs.TimesParts.{parts_are}
use Rattle.tk_core.proofs.times.row.TimesRow.decode.Goals as goal

pub returns : goal.returns
returns c =
    let long : length c.args.words.now ≡ 16 = omega arith in
    parts_are c.args.words.now 16 long
