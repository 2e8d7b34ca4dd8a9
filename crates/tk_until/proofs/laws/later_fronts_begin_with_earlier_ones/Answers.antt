use Rattle.tk_client.specs.Meaning.{cut}
use Rattle.tk_until.proofs.Fronts.{more_lines}
use Rattle.tk_until.proofs.laws.later_fronts_begin_with_earlier_ones.Goals as goal

pub returns : goal.returns
returns c = λ earlier later text below. more_lines earlier later (cut text).0 below
