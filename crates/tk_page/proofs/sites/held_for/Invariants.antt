use Rattle.std.proofs.Common.{◌≡◌, take}
use Rattle.tk_page.specs.Sites as spec
use Rattle.tk_page.proofs.sites.held_for.Given as goal

-- among the places so far
abbrev pub invariant-loop-i : goal.invariant-loop-i
invariant-loop-i l = l.found ≡ spec.held_for (take l.i l.held) l.site
