use Rattle.std.proofs.Common.{ap, ◌∙◌}
use Rattle.crossbeam_utils.specs.Seq.{cell_view}
use Rattle.tk_cell.proofs.HearLemmas.{goes_on}
use Rattle.tk_cell.proofs.shared.Shared.go_on_picked.Goals as goal

pub split_as-requires : goal.split_as-requires
split_as-requires g c =
    let pass = c.token.inside.pass in
    record {
      own = ap (λ k. k.ledger) c.token.view_is ∙ c.requires.own;
      rule = rw c.requires.picked (goes_on g.O.Sequential.meaning pass.id pass.table_id (cell_view pass) c.args.token.now c.args.number c.token.view_is c.token.invariant.one c.requires.held);
    }
