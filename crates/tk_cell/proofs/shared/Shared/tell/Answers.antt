use Rattle.std.proofs.Common.{ap, ◌∙◌}
use Rattle.crossbeam_utils.specs.Seq.{cell_view}
use Rattle.tk_cell.proofs.HearLemmas.{tells}
use Rattle.tk_cell.proofs.shared.Shared.tell.Goals as goal

pub split_as-pass-requires : goal.split_as-pass-requires
split_as-pass-requires g c =
    let pass = c.token.inside.pass in
    record {
      own = ap (λ k. k.ledger) c.token.view_is ∙ c.requires.own;
      rule = tells g.O.Sequential.meaning pass.id (cell_view pass) c.token.invariant.one;
    }
