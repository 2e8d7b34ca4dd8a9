use Rattle.std.proofs.Common.{ap, ◌∙◌}
use Rattle.crossbeam_utils.specs.Seq.{cell_view}
use Rattle.tk_cell.proofs.CallLemmas.{token_exchanges}
use Rattle.tk_cell.proofs.shared.Shared.exchange.Goals as goal

pub compare_exchange_as-requires : goal.compare_exchange_as-requires
compare_exchange_as-requires g c =
    let m = g.O.Sequential.meaning in
    let pass = c.token.inside.pass in
    record {
      cell = ap (λ k. k.ledger) c.token.view_is ∙ c.requires.own;
      rule = rw c.requires.picked (token_exchanges m g.met.O.Sequential.numbers_are_new pass.id pass.table_id (cell_view pass) c.args.token.now c.args.call c.token.view_is c.token.invariant.one c.requires.role c.requires.going c.args.current c.args.new c.requires.other c.requires.computed);
    }
