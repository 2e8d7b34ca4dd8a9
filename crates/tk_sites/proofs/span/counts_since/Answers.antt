use Rattle.std.proofs.Common.{◌≡◌, ◌+◌, ◌-◌, ◌++◌, [], ◌∷◌, take, length, get_or, ap, ap₂, sym, ◌∙◌, arith}
use Rattle.std.proofs.lemmas.List.{length-set, take_all, take_more_set}
use Rattle.tk_sites.specs.Span.{less_from}
use Rattle.tk_sites.proofs.SpanLemmas.{less_more}
use Rattle.tk_sites.proofs.span.counts_since.Goals as goal

pub loop-bucket-preserved : goal.loop-bucket-preserved
loop-bucket-preserved c =
    let l = c.loop-bucket in
    let a = c.args.old.now in
    let b = c.args.now.now in
    let less : c.saturating_sub.result ≡ get_or b l.bucket 0 - get_or a l.bucket 0 = c.saturating_sub.ensures in (
      omega (arith, c.loop-bucket-test.true),
      length-set l.counts l.bucket c.saturating_sub.result ∙ l.invariant.1,
      take_more_set l.counts l.bucket c.saturating_sub.result (omega (arith, c.loop-bucket-test.true, l.invariant.1))
          ∙ ap₂ (λ xs n. xs ++ n ∷ []) l.invariant.2 less
          ∙ sym (less_more l.bucket a b),
    )

pub returns : goal.returns
returns c =
    let l = c.loop-bucket in
    let a = c.args.old.now in
    let b = c.args.now.now in
    let last : l.bucket ≡ 14 = omega (arith, c.loop-bucket-test.false, l.invariant.0) in
    sym (take_all l.bucket l.counts (omega (arith, c.loop-bucket-test.false, l.invariant.1))) ∙ l.invariant.2 ∙ ap (λ n. less_from 0 n a b) last
