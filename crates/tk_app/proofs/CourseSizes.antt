-- What the items of a script take in a line, and when its lines are due.
use Rattle.std.proofs.Common.{◌≡◌, ℕ, ◌+◌, ◌≤◌, List, [], ◌∷◌, length, Option, Some, None, refl, ap, sym, subst, arith, length-append}
use Rattle.std.specs.Prelude.{fold, sum_by}
use Rattle.std.specs.List.{enumerate_from}
use Rattle.std.specs.Option.{option_map_or}
use Rattle.std.proofs.lemmas.List.Sums.{sum_by-cons, sum_by-append}
use Rattle.tk_live.specs.Blocks.{Block}
use Rattle.tk_live.specs.Course.{Course, told_by, step, joined, line_after, due_at}
use Rattle.tk_live.specs.Pasts.{Pasts}
use Rattle.tk_live.specs.Runs.{RiseTo}
use Rattle.tk_live.proofs.Growing.{rise_more}
use Rattle.tk_live.proofs.Leaving.{rise_push}
use Rattle.tk_script.specs.Commands.{Said, Line, says, joins, task, resource, op, poll_op, capacity, retention, times, waits, publish}
use Rattle.tk_app.proofs.ToldSizes.{told_size}
use Rattle.tk_app.proofs.WordSizes.{said_size, line_size}

-- ---- what the items take

by_command : (ps : Pasts) (n : ℕ) (s : Said) → sum_by told_size (told_by ps n s) ≤ said_size s
by_command ps n (task at kind name) = omega arith
by_command ps n (resource at kind concrete attrs) = omega arith
by_command ps n (op at r source attrs) = omega arith
by_command ps n (poll_op r o t name ready) = omega arith
by_command ps n s = omega arith

step_takes : (c : Course) (n : ℕ) (s : Said) → sum_by told_size (step c n s).told ≤ sum_by told_size c.told + said_size s
step_takes c n (capacity k) = omega arith
step_takes c n (retention k) = omega arith
step_takes c n times = omega arith
step_takes c n waits = omega arith
step_takes c n (publish at whole) = omega arith
step_takes c n s = omega (arith, sum_by-append told_size c.told (told_by c.pasts n s), by_command c.pasts n s)

joined_tells : (c : Course) (o : Option Block) → (option_map_or (joined c) o c).told ≡ c.told
joined_tells c (Some b) = refl
joined_tells c None = refl

line_takes : (c : Course) (n : ℕ) (line : Line) → sum_by told_size (line_after c (n, line)).told ≤ sum_by told_size c.told + line_size line
line_takes c n (says s) = step_takes c n s
line_takes c n joins = omega (arith, ap (sum_by told_size) (joined_tells c c.block))
line_takes c n line = omega arith

-- the items of lines take what the lines make
pub course_takes : (n : ℕ) (ls : List Line) (c : Course) → sum_by told_size (fold line_after c (enumerate_from n ls)).told ≤ sum_by told_size c.told + sum_by line_size ls
course_takes n [] c = omega arith
course_takes n (line ∷ ls) c = omega (arith, course_takes (n + 1) ls (line_after c (n, line)), line_takes c n line, sum_by-cons line_size line ls)

-- ---- when lines are due

-- no line of these is due after more recordings than there are, and none after fewer than the line before
abbrev Rises : Course → Type 0
Rises c = RiseTo (length c.told) 0 c.due

step_rises : (c : Course) (n : ℕ) (s : Said) → Rises c → Rises (step c n s)
step_rises c n (capacity k) rise = rise
step_rises c n (retention k) rise = rise
step_rises c n times rise = rise
step_rises c n waits rise = rise
step_rises c n (publish at whole) rise = rise_push (length c.told) 0 c.due (due_at c at whole) refl rise
step_rises c n s rise = subst (λ all. RiseTo all 0 c.due) (sym (length-append c.told (told_by c.pasts n s))) (rise_more (length c.told) (length (told_by c.pasts n s)) 0 c.due rise)

joined_rises : (c : Course) (o : Option Block) → Rises c → Rises (option_map_or (joined c) o c)
joined_rises c (Some b) rise = rise
joined_rises c None rise = rise

line_rises : (c : Course) (n : ℕ) (line : Line) → Rises c → Rises (line_after c (n, line))
line_rises c n (says s) rise = step_rises c n s rise
line_rises c n joins rise = joined_rises c c.block rise
line_rises c n line rise = rise

pub course_rises : (n : ℕ) (ls : List Line) (c : Course) → RiseTo (length c.told) 0 c.due → RiseTo (length (fold line_after c (enumerate_from n ls)).told) 0 (fold line_after c (enumerate_from n ls)).due
course_rises n [] c rise = rise
course_rises n (line ∷ ls) c rise = course_rises (n + 1) ls (line_after c (n, line)) (line_rises c n line rise)
