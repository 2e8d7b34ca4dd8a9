use Rattle.std.proofs.Common.{◌∙◌, ap, arith}
use Rattle.tk_paper.specs.Courses.{with_item}
use Rattle.tk_page.specs.Charges.{charge_at, course_of}
use Rattle.tk_page.proofs.BlameLemmas.{all_next}
use Rattle.tk_page.proofs.blame.Blame.note_charges.Goals as goal

pub returns-clause-courses : goal.returns-clause-courses
returns-clause-courses c = λ shown follows i.
    let old = c.args.self.now in
    let held = c.held-held.result.now in
    let grown = c.in_ok-grow.ensures in
    let pushed = c.in_ok-push_all.ensures in
    all_next c.args.now held old.none c.push.new.self old.courses.items c.grow.new.courses.items c.push_all.new.courses.items (omega (arith, grown.long, c.len.ensures)) grown.same pushed.long pushed.each
    c.in_ok-push.ensures.item i
    ∙ ap (λ places. with_item (course_of old i) (charge_at c.args.now places i)) (c.held-held.ensures shown follows)
