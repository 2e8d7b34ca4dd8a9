use Rattle.std.proofs.Common.{◌≡◌, length, ap, ◌∙◌, arith}
use Rattle.tk_core.specs.Laws.TaskReadBack.{read_back, is_held}
use Rattle.tk_core.proofs.task.row.TaskRow.decode.Goals as goal

pub returns : goal.returns
returns c row e =
    let long : length c.args.words.now ≡ 16 = omega arith in
    rw (← read_back row (is_held row (ap length e ∙ long)), e, c.moment_of.ensures, c.moment_of-2.ensures, c.moment_of-3.ensures, c.moment_of-4.ensures, c.moment_of-5.ensures, c.waits_of.ensures)
