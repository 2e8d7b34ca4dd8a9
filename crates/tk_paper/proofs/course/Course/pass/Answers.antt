use Rattle.std.proofs.Common.{arith, sym}
use Rattle.tk_paper.proofs.CourseLemmas.{passes}
use Rattle.tk_paper.proofs.course.Course.pass.Goals as goal

pub returns-clause-items : goal.returns-clause-items
returns-clause-items g c = λ xs long.
    let old = c.self.inside in
    rw (sym c.self.view_is, sym long)
    (passes xs (record { kept = old.kept.items; every = old.every; skip = old.skip }) (omega (arith, long, c.min-passed.ensures)))
