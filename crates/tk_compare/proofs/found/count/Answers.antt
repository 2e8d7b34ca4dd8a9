use Rattle.std.proofs.Common.{◌≡◌, ◌≤◌, ◌+◌, ◌==◌, ℕ, List, Bool, ap₂, sym, ◌∙◌, arith}
use Rattle.tk_compare.specs.Found.{rank_of, standing_of}
use Rattle.tk_compare.specs.declared.found.Seen.{Seen}
use Rattle.tk_compare.proofs.CountLemmas.{count_all, count_more, count_to}
use Rattle.tk_compare.proofs.found.count.Goals as goal

pub loop-at-preserved : goal.loop-at-preserved
loop-at-preserved c =
    let test : List ℕ × Seen → Bool = λ x. rank_of (standing_of x.1) == c.args.rank in
    let findings = c.args.findings.now in
    let more : c.loop-at.sum + c.one_at-sum.result ≡ count_to test findings (c.loop-at.at + 1) =
    ap₂ (λ a b. a + b) c.loop-at.invariant.0 c.one_at-sum.ensures.one ∙ sym (count_more test findings c.loop-at.at) in
    let few : c.loop-at.sum + c.one_at-sum.result ≤ c.loop-at.at + 1 = omega (arith, c.loop-at.invariant.1, c.one_at-sum.ensures.few) in
    (more, few)

pub returns : goal.returns
returns c =
    let test : List ℕ × Seen → Bool = λ x. rank_of (standing_of x.1) == c.args.rank in
    c.loop-at.invariant.0 ∙ count_all test c.args.findings.now c.loop-at.at _ c.len-at-end.ensures c.loop-at-test.false
