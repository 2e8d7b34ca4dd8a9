use Rattle.tk_ledgers.proofs.CallersLemmas.{calls_keep_only}
use Rattle.tk_ledgers.proofs.HeldLemmas.{calls_keep_all, handing_out_keeps_all, taking_back_keeps_all, beside_keeps_all}
use Rattle.tk_ledgers.proofs.laws.a_hand_holds_whom_it_made.Goals as goal

pub returns : goal.returns
returns g c = record {
  calls = calls_keep_all g.O.Sequential.meaning;
  handing_out = handing_out_keeps_all g.O.Sequential.meaning;
  taking_back = taking_back_keeps_all g.O.Sequential.meaning;
  beside = beside_keeps_all g.O.Sequential.meaning;
  role = calls_keep_only g.O.Sequential.meaning g.met.O.Sequential.numbers_are_new;
}
