use Rattle.std.proofs.Common.{ap, ◌∙◌}
use Rattle.crossbeam_utils.specs.Seq.{cell_view}
use Rattle.tk_cell.proofs.SplitLemmas.{token_splits}
use Rattle.tk_cell.proofs.shared.Shared.split_picked.Goals as goal

pub split_as-pass-requires : goal.split_as-pass-requires
split_as-pass-requires g c =
    let pass = c.token.inside.pass in
    record {
      own = ap (λ k. k.ledger) c.token.view_is ∙ c.requires.own;
      rule = rw c.requires.picked (token_splits g.O.Sequential.meaning pass.id pass.table_id (cell_view pass) c.args.token.now c.args.number c.token.view_is c.token.invariant.one c.requires.held c.requires.other);
    }
