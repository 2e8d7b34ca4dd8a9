use Rattle.std.proofs.Common.{◌≡◌, ◌∷◌, length, ap, arith}
use Rattle.tk_core.proofs.TimesParts.{parts_are}
use Rattle.tk_core.proofs.times.row.TimesRow.to_words.Goals as goal

pub returns : goal.returns
returns c =
    let long : length c.args.self.now.counts ≡ 14 = omega arith in
    ap (λ ws. c.args.self.now.handles ∷ c.args.self.now.longest ∷ ws) (parts_are c.args.self.now.counts 14 long)
