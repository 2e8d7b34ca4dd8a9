-- The numbers of a page.
use Rattle.std.specs.Prelude.{ℕ, ◌+◌, ◌-◌, ◌*◌, ◌/◌, ◌==◌, nat_le, min, max, if◌then◌else◌}
use Rattle.tk_core.specs.Lists.{capped}
use Rattle.tk_page.specs.declared.figures.Scale.{Scale}

-- a part of a whole, in thousandths, rounded down: at most 1000, and 0 of no whole
abbrev pub share_of : ℕ → ℕ → ℕ
share_of part whole = if whole == 0 then 0 else (if nat_le whole part then 1000 else 1000 * part / whole)

-- a quotient, rounded down, and 0 where there is none
abbrev pub each_of : ℕ → ℕ → ℕ
each_of sum count = if count == 0 then 0 else sum / count

-- a quotient in thousandths, rounded down, and 0 where there is none
abbrev pub mean_of : ℕ → ℕ → ℕ
mean_of part whole = if whole == 0 then 0 else capped (1000 * part / whole)

-- how long the time is that a page shows
abbrev pub watched : Scale → ℕ
watched scale = scale.now - scale.start

-- how many nanoseconds a unit of width is
abbrev pub unit_of : Scale → ℕ
unit_of scale = watched scale / 1000 + 1

-- where a moment stands, in units from the left
abbrev pub x_of : Scale → ℕ → ℕ
x_of scale moment = (min moment scale.now - scale.start) / unit_of scale

-- how wide a page's time is
abbrev pub wide_of : Scale → ℕ
wide_of scale = max (x_of scale scale.now) 1
