use Rattle.std.proofs.Common.{ap, ◌∙◌}
use Rattle.crossbeam_utils.specs.Seq.{cell_view}
use Rattle.tk_cell.proofs.CallLemmas.{token_looks}
use Rattle.tk_cell.proofs.shared.Shared.look.Goals as goal

pub load_as-requires : goal.load_as-requires
load_as-requires g c =
    let m = g.O.Sequential.meaning in
    let pass = c.token.inside.pass in
    record {
      cell = ap (λ k. k.ledger) c.token.view_is ∙ c.requires.own;
      rule = rw c.requires.picked (token_looks m g.met.O.Sequential.numbers_are_new pass.id pass.table_id (cell_view pass) c.args.token.now c.args.call c.token.view_is c.token.invariant.one c.requires.role c.requires.going);
    }
