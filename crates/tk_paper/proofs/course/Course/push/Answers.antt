use Rattle.std.proofs.Common.{◌≡◌, ◌-◌, ◌∙◌, ◌≤◌, length, [], ◌∷◌, ◌++◌, arith, ap, refl, sym, subst}
use Rattle.tk_paper.specs.Courses.{KeepsEach}
use Rattle.tk_paper.proofs.CourseLemmas.{keeps}
use Rattle.tk_paper.proofs.course.Course.push.Goals as goal

pub returns-clause-ok : goal.returns-clause-ok
returns-clause-ok g c = λ xs few h.
    let item = c.args.item in
    let room = c.self-2.inside in
    let none : c.args.self.now.skip ≡ 0 = ap (λ v. v.skip) (sym c.self.view_is) ∙ omega (arith, c.if-self-gt0.false) in
    let none_left : room.skip ≡ 0 = ap (λ v. v.skip) c.self-2.view_is ∙ c.make_room.ensures.skip in
    let r = c.make_room.ensures.same xs few h in
    let r0 = subst (λ s. KeepsEach xs room.kept.items room.every s) none_left (subst (λ v. KeepsEach xs v.kept v.every v.skip) (sym c.self-2.view_is) r) in
    let less = subst (λ v. length v.kept ≤ 63) (sym c.self-2.view_is) (c.make_room.ensures.less h.few) in
    subst (λ ys. KeepsEach (xs ++ item ∷ []) ys room.every (room.every - 1)) (sym c.in_ok-push.ensures.items)
    (keeps xs room.kept.items room.every item less c.self-2.invariant r0 (room.every - 1) refl)
