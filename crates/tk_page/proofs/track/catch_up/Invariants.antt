use Rattle.std.proofs.Common.{◌≡◌, ◌-◌, length}
use Rattle.std.specs.Prelude.{drop}
use Rattle.tk_paper.specs.Courses.{with_items}
use Rattle.tk_page.specs.Kept.{samples_at}
use Rattle.tk_page.proofs.track.catch_up.Given as goal

-- with those that are left the course comes to the same
abbrev pub invariant-loop-at : goal.invariant-loop-at
invariant-loop-at l = with_items l.course (samples_at l.row (drop l.at l.moments)) ≡ with_items l.initial.course (samples_at l.row (drop l.initial.at l.moments))

abbrev pub decreases-loop-at : goal.decreases-loop-at
decreases-loop-at l = length l.moments - l.at
