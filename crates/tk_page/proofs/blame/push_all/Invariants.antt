use Rattle.std.proofs.Common.{◌≡◌, ◌≤◌, ◌<◌, ℕ, get_or, length}
use Rattle.tk_paper.specs.Courses.{CourseView, with_item}
use Rattle.tk_page.specs.Charges.{charge_at}
use Rattle.tk_page.specs.declared.blame.Charge.{Charge}
use Rattle.tk_page.proofs.blame.push_all.Given as goal

-- the courses so far have an item more, and the others are as they were
abbrev pub invariant-loop-i : goal.invariant-loop-i
invariant-loop-i l = record {
  long : length l.courses.items ≡ length l.initial.courses.items;
  taken : (d : CourseView Charge) (j : ℕ) → j < l.i → get_or l.courses.items j d ≡ with_item (get_or l.initial.courses.items j d) (charge_at l.now l.held j);
  others : (d : CourseView Charge) (j : ℕ) → l.i ≤ j → get_or l.courses.items j d ≡ get_or l.initial.courses.items j d;
}
