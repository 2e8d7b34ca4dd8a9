use Rattle.std.proofs.Common.{ap, sym, ◌∙◌}
use Rattle.crossbeam_utils.specs.Seq.{cell_view}
use Rattle.tk_cell.proofs.HearLemmas.{hears, hears_turns}
use Rattle.tk_cell.proofs.shared.Shared.hear.Goals as goal

pub join_as-requires : goal.join_as-requires
join_as-requires g c =
    let pass = c.token.inside.pass in
    let theirs = c.seen.inside.pass in
    let here = ap (λ k. k.ledger) c.token.view_is ∙ c.requires.own in
    let there = ap (λ k. k.ledger) c.seen.view_is ∙ c.requires.other in
    record {
      own = (here, there ∙ sym here, c.seen.invariant.1);
      rule = hears g.O.Sequential.meaning pass.id (cell_view pass) theirs.id (cell_view theirs) c.token.invariant.one c.seen.invariant.0;
    }

pub load_as-requires : goal.load_as-requires
load_as-requires g c =
    let before = c.token.inside.pass in
    let theirs = c.seen.inside.pass in
    let pass = c.join_as.new.pass in
    let e = c.join_as.ensures in
    let here = ap (λ k. k.ledger) c.token.view_is ∙ c.requires.own in
    record {
      cell = e.0.0 ∙ here;
      rule = hears_turns g.O.Sequential.meaning pass.id (cell_view pass) (cell_view before) (cell_view theirs) e.1;
    }
