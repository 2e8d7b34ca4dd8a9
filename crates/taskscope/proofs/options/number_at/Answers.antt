use Rattle.std.proofs.Common.{◌∙◌, ap}
use Rattle.std.specs.Prelude.{option_and_then}
use Rattle.std.specs.Str.Parse.{ParsesUnsigned, ExplainsUnsignedError, HasUnsignedDigitsIfOk}
use Rattle.clap.specs.Matches.{found_of, one_text}
use Rattle.clap.proofs.WalkLemmas.{one_text-rows}
use Rattle.taskscope.specs.Moments.{number_of}
use Rattle.taskscope.proofs.Numbers.{number_read}
use Rattle.taskscope.proofs.options.number_at.Goals as goal

pub returns : goal.returns
returns c =
    let options = found_of c.args.options.now in
    let name = c.args.name.now in
    number_read _ (λ bs r. ParsesUnsigned 64 10 bs r × ExplainsUnsignedError 10 bs r × HasUnsignedDigitsIfOk bs r) (λ u x g. g.0)
    (one_text options name) c.get_one.result c.get_one.ensures.none c.get_one.ensures.value
    ∙ ap (option_and_then number_of) (one_text-rows options name)
