use Rattle.crossbeam_utils.specs.Seq.{cell_view}
use Rattle.tk_cell.proofs.OpenLemmas.{opens_turns}
use Rattle.tk_cell.proofs.shared.Shared.begin.Goals as goal

pub swap_as-requires : goal.swap_as-requires
swap_as-requires g c =
    let m = g.O.Sequential.meaning in
    let made = c.in_ok-cell.ensures in
    let pass = c.in_ok-cell.pass in
    record {
      cell = made.0;
      rule = rw c.requires.picked (opens_turns m g.met.O.Sequential.begins pass.id (cell_view pass) c.args.row c.to_words.result made.1 c.requires.opening c.to_words.ensures);
    }
