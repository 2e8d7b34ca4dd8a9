use Rattle.tk_cell.proofs.OursLemmas as lemmas
use Rattle.tk_cell.proofs.laws.joined_calls_are_interleaved.Goals as goal

pub returns : goal.returns
returns g c = let m = g.O.Sequential.meaning in lemmas.joins_interleave m
