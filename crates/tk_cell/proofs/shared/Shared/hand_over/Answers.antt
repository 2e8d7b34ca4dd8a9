use Rattle.std.proofs.Common.{ap, ◌∙◌}
use Rattle.crossbeam_utils.specs.Seq.{cell_view}
use Rattle.tk_cell.proofs.SplitLemmas.{hands_over}
use Rattle.tk_cell.proofs.shared.Shared.hand_over.Goals as goal

pub split_as-requires : goal.split_as-requires
split_as-requires g c =
    let pass = c.token.inside.pass in
    record {
      own = ap (λ k. k.ledger) c.token.view_is ∙ c.requires.own;
      rule = hands_over g.O.Sequential.meaning pass.id (cell_view pass) c.token.invariant.one;
    }
