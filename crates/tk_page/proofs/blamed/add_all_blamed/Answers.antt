use Rattle.std.proofs.Common.{◌∙◌, ◌++◌, ℕ, List, ap, sym, arith, false, get_or}
use Rattle.tk_page.specs.Charges.{BlamedView, blamed_at, course_of}
use Rattle.tk_page.specs.declared.ranks.Rank.{Rank}
use Rattle.tk_page.proofs.BlameLemmas.{flat_next}
use Rattle.tk_page.proofs.blamed.add_all_blamed.Goals as goal

pub loop-rank-preserved : goal.loop-rank-preserved
loop-rank-preserved c =
    let zero : Rank = record { calm = false; below = 0; place = 0 } in
    let ranks = c.args.ranks.now in
    let i = c.loop-rank.rank-index in
    let one = blamed_at c.args.now c.args.held.now (λ (k : ℕ). (course_of c.args.blame.now k).kept) in
    c.in_ok-add_blamed.ensures ∙ ap (λ (xs : List BlamedView). xs ++ one (get_or ranks i zero)) c.loop-rank.invariant ∙ sym (flat_next one ranks i zero (omega arith))
