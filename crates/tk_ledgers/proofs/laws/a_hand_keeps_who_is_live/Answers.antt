use Rattle.tk_ledgers.proofs.CallersLemmas.{calls_keep_live, drawn_is_new, handing_out_keeps_live, handles_stay_live, taking_back_keeps_live}
use Rattle.tk_ledgers.proofs.laws.a_hand_keeps_who_is_live.Goals as goal

pub returns : goal.returns
returns g c = let m = g.O.Sequential.meaning in record { calls = calls_keep_live m; drawn = drawn_is_new m; handing_out = handing_out_keeps_live m; handles = handles_stay_live m; taking_back = taking_back_keeps_live m }
