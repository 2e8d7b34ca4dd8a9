-- What stands below a place that changed: how long the polls of its tasks ran, and how long they waited, before and after.
use Rattle.std.specs.Prelude.{ℕ, List, ◌++◌, codes}
use Rattle.tk_sites.specs.Below.{line_if_any}
use Rattle.tk_compare.specs.declared.spent.Compared.{Compared}

-- a line for each histogram that a stream has of the place: of its polls in both streams, and then of its waits
abbrev pub below : Compared → List ℕ
below x =
    line_if_any (codes "  polls before ") x.before.times.polls
    ++ (line_if_any (codes "  polls after ") x.after.times.polls
    ++ (line_if_any (codes "  waits before ") x.before.times.waits
    ++ line_if_any (codes "  waits after ") x.after.times.waits))
