use Rattle.std.proofs.Common.{take}
use Rattle.std.specs.Prelude.{flat_map, string_bytes}
use Rattle.tk_screen.specs.Texts.{Puts}
use Rattle.tk_frame.specs.Courses.{mark_of}
use Rattle.tk_frame.proofs.course.put_marks.Given as goal

-- the marks so far
abbrev pub invariant-loop-n : goal.invariant-loop-n
invariant-loop-n l = Puts (string_bytes l.initial.out) (string_bytes l.out) (flat_map (mark_of l.most) (take l.n-index l.waits))
