use Rattle.std.proofs.Common.{◌≡◌, ◌*◌, ◌∙◌, arith, length, ap, subst, sym}
use Rattle.tk_paper.specs.Courses.{KeepsEach}
use Rattle.tk_paper.proofs.CourseLemmas.{bounded, roomed, seconds, thins}
use Rattle.tk_paper.proofs.course.Course.make_room.Goals as goal

pub returns-clause-same : goal.returns-clause-same
returns-clause-same g c = λ xs few h.
    let old = c.self.inside in
    let kept = old.kept.items in
    let now = c.thin.new.kept.items in
    let none : old.skip ≡ 0 = ap (λ v. v.skip) c.self.view_is ∙ c.requires in
    let h0 = subst (λ s. KeepsEach xs kept old.every s) none (subst (λ v. KeepsEach xs v.kept v.every v.skip) (sym c.self.view_is) h) in
    let full : length kept ≡ 64 = omega (arith, c.len.ensures, c.if-len-ne-SAMPLES.false) in
    let b = bounded xs kept now old.every few full h0 in
    let is : 2 * old.every ≡ c.saturating_mul-self-inside.result = omega (arith, c.saturating_mul-self-inside.ensures, b) in
    subst (λ s. KeepsEach xs now c.saturating_mul-self-inside.result s) (sym none)
    (subst (λ k. KeepsEach xs now k 0) is (thins xs kept now old.every full c.thin.ensures.count c.thin.ensures.each c.self.invariant h0))

pub returns-clause-is : goal.returns-clause-is
returns-clause-is g c =
    let old = c.self.inside in
    let kept = old.kept.items in
    let full : length kept ≡ 64 = omega (arith, c.len.ensures, c.if-len-ne-SAMPLES.false) in
    rw (sym c.self.view_is)
    (roomed kept c.thin.new.kept.items old.every old.skip c.saturating_mul-self-inside.result full (seconds kept c.thin.new.kept.items full c.thin.ensures.count c.thin.ensures.each)
    (omega (arith, c.saturating_mul-self-inside.ensures)))
