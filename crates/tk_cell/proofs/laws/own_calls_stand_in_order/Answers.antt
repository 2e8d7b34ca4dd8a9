use Rattle.tk_cell.proofs.OursLemmas as lemmas
use Rattle.tk_cell.proofs.laws.own_calls_stand_in_order.Goals as goal

pub returns : goal.returns
returns g c = let m = g.O.Sequential.meaning in record { calls = lemmas.calls_in_order m; hearing = lemmas.hearing_adds_nothing m; meeting = lemmas.meeting_adds_nothing m }
