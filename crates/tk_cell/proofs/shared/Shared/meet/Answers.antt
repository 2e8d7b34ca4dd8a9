use Rattle.std.proofs.Common.{ap, sym, subst, ◌∙◌}
use Rattle.crossbeam_utils.specs.Seq.{cell_view}
use Rattle.tk_cell.specs.Parts.{IsOne}
use Rattle.tk_cell.proofs.SplitLemmas.{hands_over}
use Rattle.tk_cell.proofs.JoinLemmas.{takes_in}
use Rattle.tk_cell.proofs.HearLemmas.{meets_turns, parts_again}
use Rattle.tk_cell.proofs.shared.Shared.meet.Goals as goal

pub split_as-theirs-requires : goal.split_as-theirs-requires
split_as-theirs-requires g c =
    let pass = c.other.inside.pass in
    record {
      own = ap (λ k. k.ledger) c.other.view_is ∙ c.requires.other;
      rule = hands_over g.O.Sequential.meaning pass.id (cell_view pass) c.other.invariant.one;
    }

pub join_as-requires : goal.join_as-requires
join_as-requires g c =
    let pass = c.token.inside.pass in
    let theirs = c.split_as-theirs.result in
    let e = c.split_as-theirs.ensures in
    let here = ap (λ k. k.ledger) c.token.view_is ∙ c.requires.own in
    let there = ap (λ k. k.ledger) c.other.view_is ∙ c.requires.other in
    record {
      own = (here, e.given.0 ∙ (there ∙ sym here), e.given.2);
      rule = takes_in g.O.Sequential.meaning pass.id (cell_view pass) theirs.id (cell_view theirs) c.token.invariant.one (subst (λ p. IsOne p) (sym e.given.1) c.other.invariant.one);
    }

pub load_as-requires : goal.load_as-requires
load_as-requires g c =
    let before = c.token.inside.pass in
    let theirs = c.split_as-theirs.result in
    let pass = c.join_as.new.pass in
    let e = c.join_as.ensures in
    let here = ap (λ k. k.ledger) c.token.view_is ∙ c.requires.own in
    record {
      cell = e.0.0 ∙ here;
      rule = meets_turns g.O.Sequential.meaning pass.id (cell_view pass) (cell_view before) (cell_view theirs) e.1;
    }

pub split_as-requires : goal.split_as-requires
split_as-requires g c =
    let pass = c.load_as.new.pass in
    let e = c.load_as.ensures in
    let here = ap (λ k. k.ledger) c.token.view_is ∙ c.requires.own in
    record {
      own = e.cell.0 ∙ (c.join_as.ensures.0.0 ∙ here);
      rule = parts_again g.O.Sequential.meaning pass.id (cell_view pass) e.rule.0;
    }
