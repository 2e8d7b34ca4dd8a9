use Rattle.std.proofs.Common.{◌≡◌, ◌≤◌, ◌<◌, ◌*◌, ℕ, length, get_or}
use Rattle.tk_paper.proofs.course.thin.Given as goal

-- the items before stand in their new places, and the others where they stood
abbrev pub invariant-loop-i : goal.invariant-loop-i
invariant-loop-i g l = record {
  count : length l.kept.items ≡ 64;
  moved : (d : g.row.T.Denot) (j : ℕ) → j < l.i → get_or l.kept.items j d ≡ get_or l.initial.kept.items (2 * j) d;
  others : (d : g.row.T.Denot) (j : ℕ) → l.i ≤ j → get_or l.kept.items j d ≡ get_or l.initial.kept.items j d;
}
