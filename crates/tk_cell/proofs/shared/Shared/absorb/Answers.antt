use Rattle.std.proofs.Common.{ap, sym, ◌∙◌}
use Rattle.crossbeam_utils.specs.Seq.{cell_view}
use Rattle.tk_cell.proofs.JoinLemmas.{takes_in, settles_turns}
use Rattle.tk_cell.proofs.shared.Shared.absorb.Goals as goal

pub join_as-requires : goal.join_as-requires
join_as-requires g c =
    let pass = c.token.inside.pass in
    let theirs = c.hand_over-theirs.result in
    let e = c.hand_over-theirs.ensures in
    let here = ap (λ k. k.ledger) c.token.view_is ∙ c.requires.own in
    record {
      own = (here, e.own ∙ sym here, e.whole);
      rule = takes_in g.O.Sequential.meaning pass.id (cell_view pass) theirs.id (cell_view theirs) c.token.invariant.one e.one;
    }

pub load_as-requires : goal.load_as-requires
load_as-requires g c =
    let before = c.token.inside.pass in
    let theirs = c.hand_over-theirs.result in
    let pass = c.join_as.new.pass in
    let e = c.join_as.ensures in
    let here = ap (λ k. k.ledger) c.token.view_is ∙ c.requires.own in
    record {
      cell = e.0.0 ∙ here;
      rule = settles_turns g.O.Sequential.meaning pass.id (cell_view pass) (cell_view before) (cell_view theirs) e.1;
    }
