-- A place: where tasks are made, and as what. People read `place`; in the sources, where that is an index, it is a site.
use Rattle.std.specs.Prelude.{ℕ}

-- how many places stand by themselves; all others are one
abbrev pub room : ℕ
room = 4096
