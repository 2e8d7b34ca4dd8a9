use Rattle.std.proofs.Common.{◌≡◌, length, ap, ◌∙◌, arith}
use Rattle.tk_core.specs.Laws.ResourceReadBack.{read_back, is_held}
use Rattle.tk_core.proofs.resource.row.ResourceRow.decode.Goals as goal

pub returns : goal.returns
returns c row e =
    let long : length c.args.words.now ≡ 16 = omega arith in
    rw (← read_back row (is_held row (ap length e ∙ long)), e, c.moment_of.ensures, c.from_words.ensures)
