use Rattle.tk_ledgers.proofs.CalledLemmas.{calls_are_called, readings_show_called}
use Rattle.tk_ledgers.proofs.laws.a_hand_shows_what_it_called.Goals as goal

pub returns : goal.returns
returns g c = let m = g.O.Sequential.meaning in record { calls = calls_are_called m; readings = readings_show_called m c.args.read }
