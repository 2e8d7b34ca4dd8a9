use Rattle.std.proofs.Common.{◌∙◌, ap, arith, get_or, ◌++◌, ◌∷◌, []}
use Rattle.tk_page.proofs.BlameLemmas.{push_default}
use Rattle.tk_page.proofs.blame.grow.Goals as goal

pub loop-count-preserved : goal.loop-count-preserved
loop-count-preserved c =
    let none = c.args.none.now in
    record {
      long = grind (arith, c.in_ok-push.ensures, c.loop-count.invariant.long);
      same = λ i.
          ap (λ xs. get_or xs i none) (c.in_ok-push.ensures.items ∙ ap (λ x. c.loop-count.courses.items ++ x ∷ []) c.in_ok-course.ensures)
          ∙ push_default c.loop-count.courses.items none i ∙ c.loop-count.invariant.same i;
    }
